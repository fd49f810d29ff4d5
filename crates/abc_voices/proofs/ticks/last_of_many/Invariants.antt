use Rattle.std.proofs.Common.{◌≡◌, ℕ, ◌≤◌, length, drop}
use Rattle.std.specs.Prelude.{nat_eq}
use Rattle.std.specs.HashSet.{contains}
use Rattle.abc_voices.specs.Ticks.{has_tick, last_of_each_tick}
use Rattle.abc_voices.proofs.ticks.last_of_many.Given as goal

-- the changes in force from here on, and their ticks
abbrev pub invariant-loop-left : goal.invariant-loop-left
invariant-loop-left g l = record {
  inside : l.left ≤ length l.changes;
  last : l.last_changes.items ≡ last_of_each_tick (drop l.left l.changes);
  ticks : (tick : ℕ) → contains nat_eq l.ticks tick ≡ has_tick tick (drop l.left l.changes);
}

abbrev pub decreases-loop-left : goal.decreases-loop-left
decreases-loop-left g l = l.left
