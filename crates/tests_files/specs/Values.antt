-- Values as the worked examples write them: a tick is 484,323,840 grains. Not in ABC 2.1.
use Rattle.std.specs.Prelude.{ℕ, ◌+◌, ◌*◌}
use Rattle.abc_time.specs.declared.grains.Grains.{Grains}
use Rattle.abc_voices_score.specs.declared.score.Change.{Change}
use Rattle.abc_voices_score.specs.declared.score.ChangeKind.{ChangeKind}
use Rattle.abc_voices_score.specs.declared.score.ProgramChange.{ProgramChange}
use Rattle.abc_voices_score.specs.declared.score.Sounding.{Sounding}

-- The moment of a tick.
abbrev pub at_tick : ℕ → Grains
at_tick tick = record { 0 = tick * 484323840 }

-- A key that sounds with a velocity from one tick to another, and one with the velocity 80.
abbrev pub sounding_with : ℕ → ℕ → ℕ → ℕ → Sounding
sounding_with velocity key on off =
    record { key = key; on = at_tick on; off = at_tick off; velocity = velocity }

abbrev pub sounding : ℕ → ℕ → ℕ → Sounding
sounding key on off = sounding_with 80 key on off

-- A change of program at a tick.
abbrev pub program_at : ℕ → ℕ → ProgramChange
program_at tick number = record { at = at_tick tick; number = number }

-- A change at a tick.
abbrev pub change_at : ℕ → ChangeKind → Change
change_at tick what = record { at = at_tick tick; what = what }

-- The note of this key that sounds for the seventh part of 960 ticks, after `before` others.
abbrev pub seventh : ℕ → ℕ → Sounding
seventh key before =
    record {
      key = key;
      on = record { 0 = before * 66421555200 };
      off = record { 0 = (before + 1) * 66421555200 };
      velocity = 80;
    }
