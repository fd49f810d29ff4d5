use Rattle.std.proofs.Common.{◌≡◌, ◌++◌, drop, map}
use Rattle.abc_tune_compiler.specs.Tune.{fault_of_tune}
use Rattle.abc_live_index.specs.StayInFront.{StayInFront}
use Rattle.abc_live_index.proofs.tune_faults.put_of_tune.Given as goal

-- what is put, and the rest
abbrev pub invariant-loop-code : goal.invariant-loop-code
invariant-loop-code l = record {
  put : l.faults.items ++ map (fault_of_tune l.line) (drop l.code-index l.codes) ≡ l.initial.faults.items ++ map (fault_of_tune l.line) l.codes;
  front : StayInFront l.initial.faults.items l.faults.items;
}
