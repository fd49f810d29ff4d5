use Rattle.std.proofs.Common.{◌≡◌, ◌-◌, ◌++◌, drop, map, take}
use Rattle.abc_tune_compiler.specs.Placed.{placed_at}
use Rattle.abc_tune_compiler.specs.Tune.{faults_along}
use Rattle.abc_live_index.specs.StayInFront.{StayInFront}
use Rattle.abc_live_index.proofs.tune_faults.put_of_line.Given as goal

-- what is put, and the rest
abbrev pub invariant-loop-i : goal.invariant-loop-i
invariant-loop-i g l = record {
  put : l.faults.items ++ faults_along (g.C.Compiler.rules l.compiler).faults (map (placed_at l.line) (take (l.to - l.i) (drop l.i l.chain.items)))
      ≡ l.initial.faults.items ++ faults_along (g.C.Compiler.rules l.compiler).faults (map (placed_at l.line) (take (l.to - l.from) (drop l.from l.chain.items)));
  front : StayInFront l.initial.faults.items l.faults.items;
}
