-- Grains and ticks.
use Rattle.std.specs.Prelude.{ℕ, ◌*◌, ◌/◌, ◌≤◌}
use Rattle.std.proofs.Common.{lit<, le_trans}
use Rattle.std.proofs.Math.Nat.{div-le_of_le-mul, div-mul-le_self, le-div_iff_mul-le}
use Rattle.abc_time.specs.declared.grains.TheConstants.{LAST_TICK}

-- Grains of a whole note, 2^16 * 3^4 * 5^2 * 7^2 * 11 * 13. Not in ABC 2.1.
unfoldable pub grains_of_a_whole_note : ℕ
grains_of_a_whole_note = 929901772800

-- Grains of a tick: 1,920 ticks are a whole note. Not in ABC 2.1.
unfoldable pub grains_of_a_tick : ℕ
grains_of_a_tick = 484323840

-- Grains of 1,024 whole notes, which no note or rest exceeds. Not in ABC 2.1.
unfoldable pub grains_of_the_longest_length : ℕ
grains_of_the_longest_length = 1024 * grains_of_a_whole_note

-- Grains of 131,072 whole notes, which no tune exceeds. Not in ABC 2.1.
unfoldable pub grains_of_the_latest_end : ℕ
grains_of_the_latest_end = 131072 * grains_of_a_whole_note

-- The tick of a moment: the number of whole ticks before it. Not in ABC 2.1.
abbrev pub tick_at : ℕ → ℕ
tick_at moment = moment / grains_of_a_tick

-- The tick of the latest end is the last tick.
pub tick_at-below : (moment : ℕ) → moment ≤ grains_of_the_latest_end → tick_at moment ≤ LAST_TICK
unfolding grains_of_a_whole_note grains_of_a_tick grains_of_the_latest_end
tick_at-below moment early = div-le_of_le-mul 484323840 early

-- A later moment falls on no earlier tick.
pub tick_at-le : (m n : ℕ) → m ≤ n → tick_at m ≤ tick_at n
unfolding grains_of_a_tick
tick_at-le m n later =
    (le-div_iff_mul-le {k = 484323840} {x = m / 484323840} {y = n} (lit< tt)).1
    (le_trans (div-mul-le_self m 484323840) later)
