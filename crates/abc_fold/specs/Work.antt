-- The counters of an edit's work.
use Rattle.std.specs.Prelude.{◌≡◌, ℕ, ◌+◌, ◌-◌, ◌^◌, ◌≤◌, min, max}

-- How many lines were scanned, steps folded and tunes built. Not in ABC 2.1.
pub record Counters : Type 0 where
  pub scanned : ℕ
  pub folded : ℕ
  pub built : ℕ

-- A counter raised by k, which stays at the greatest u64 once there. Not in ABC 2.1.
unfoldable pub raised : ℕ → ℕ → ℕ
raised count k = max count (min (count + k) (2 ^ 64 - 1))

-- The counters after k more steps. Not in ABC 2.1.
abbrev pub after_steps : Counters → ℕ → Counters
after_steps counters k = record counters { folded = raised counters.folded k }

-- The steps folded have risen by k at most, and the other two counters have not. Not in ABC 2.1.
pub record IsRaisedUpTo (k : ℕ) (before after : Counters) : Type 0 where
  pub scanned : after.scanned ≡ before.scanned
  pub built : after.built ≡ before.built
  pub least : before.folded ≤ after.folded
  pub most : after.folded ≤ raised before.folded k
