use Rattle.std.proofs.Common.{◌≡◌, ◌++◌, drop, map}
use Rattle.abc_tune_memo.specs.Memo.{Remembers}
use Rattle.abc_live_index.specs.Output.{output_in}
use Rattle.abc_live_index.proofs.BuildCounts.{BuiltSoFar}
use Rattle.abc_live_index.proofs.outputs.outputs_of.Given as goal

-- the outputs so far, and those of the rest, for which no more is built than their share
abbrev pub invariant-loop-place : goal.invariant-loop-place
invariant-loop-place g l = record {
  values : l.outputs.items ++ map (output_in (g.C.Compiler.rules l.compiler)) (drop l.place l.stretch.chains.now) ≡ map (output_in (g.C.Compiler.rules l.compiler)) l.stretch.chains.now;
  remembers : Remembers (g.C.Fold.steps l.compiler) (g.C.Compiler.rules l.compiler) l.memo;
  built : BuiltSoFar l.old.reused_tunes.now (drop l.place l.old.reused_tunes.now) (g.C.Work.Counts.counts l.initial.work) (g.C.Work.Counts.counts l.work);
}
