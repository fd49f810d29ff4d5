use Rattle.std.proofs.Common.{◌≡◌, ◌++◌, drop, map}
use Rattle.abc_tune_compiler.specs.Tune.{fault_in}
use Rattle.abc_live_index.specs.StayInFront.{StayInFront}
use Rattle.abc_live_index.proofs.tune_faults.put_of_cell.Given as goal

-- what is put, and the rest
abbrev pub invariant-loop-column : goal.invariant-loop-column
invariant-loop-column l = record {
  put : l.faults.items ++ map (fault_in l.line) (drop l.column-index l.found) ≡ l.initial.faults.items ++ map (fault_in l.line) l.found;
  front : StayInFront l.initial.faults.items l.faults.items;
}
