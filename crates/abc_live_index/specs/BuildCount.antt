-- How far the count of tunes built may rise. Not in ABC 2.1.
use Rattle.std.specs.Prelude.{◌≡◌, ℕ, ◌≤◌, List, Option, Some, None}
use Rattle.std.specs.List.{sum_by}
use Rattle.abc_fold.specs.Work.{Counters, raised}

-- The tunes built have risen by k at most, and the other two counters have not.
pub record IsBuiltUpTo (k : ℕ) (before after : Counters) : Type 0 where
  pub scanned : after.scanned ≡ before.scanned
  pub folded : after.folded ≡ before.folded
  pub least : before.built ≤ after.built
  pub most : after.built ≤ raised before.built k

-- A tune is built if it reuses no output of an old one.
abbrev pub built_count_at : Option ℕ → ℕ
built_count_at None = 1
built_count_at (Some old) = 0

-- How many tunes reuse no output of an old one.
abbrev pub built_count : List (Option ℕ) → ℕ
built_count reused_tunes = sum_by built_count_at reused_tunes
