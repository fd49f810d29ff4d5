use Rattle.std.proofs.Common.{◌≡◌, ◌+◌, ◌≤◌, ◌++◌, drop, length, sum_by}
use Rattle.abc_tune_compiler.specs.Tune.{faults_along}
use Rattle.abc_live_index.specs.Output.{placed_from}
use Rattle.abc_live_index.specs.StayInFront.{StayInFront}
use Rattle.abc_live_index.proofs.tune_faults.put_of_lines.Given as goal

-- what is put, and the rest, which the chain has
abbrev pub invariant-loop-at : goal.invariant-loop-at
invariant-loop-at g l = record {
  put : l.faults.items ++ faults_along (g.C.Compiler.rules l.compiler).faults (placed_from (l.first + l.at) (drop l.at l.counts) (drop l.from l.chain.items))
      ≡ l.initial.faults.items ++ faults_along (g.C.Compiler.rules l.compiler).faults (placed_from l.first l.counts l.chain.items);
  inside : l.from + sum_by (λ count. count) (drop l.at l.counts) ≤ length l.chain.cells;
  front : StayInFront l.initial.faults.items l.faults.items;
}
