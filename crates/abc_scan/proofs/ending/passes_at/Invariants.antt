use Rattle.std.proofs.Common.{◌≡◌, ◌+◌, ◌-◌, ◌<◌, ◌≤◌, Some, length, drop}
use Rattle.std.specs.Prelude.{fold}
use Rattle.abc_scan.specs.Ending.{with_range, more_from, passes_at}
use Rattle.abc_scan.proofs.ending.passes_at.Given as goal

-- the passes so far, and those of the ranges after
abbrev pub invariant-loop-range : goal.invariant-loop-range
invariant-loop-range l = record {
  some : 0 < l.size;
  inside : l.size ≤ length l.text;
  read : passes_at l.text ≡ Some (fold with_range l.passes (more_from 0 (drop l.size l.text)).0, l.size + (more_from 0 (drop l.size l.text)).1);
}

abbrev pub decreases-loop-range : goal.decreases-loop-range
decreases-loop-range l = length l.initial.text - l.size
