use Rattle.std.proofs.Common.{◌≡◌, ◌++◌, drop}
use Rattle.std.specs.List.{AllZip}
use Rattle.abc_live_index.specs.Tunes.{HasCells, faults_by}
use Rattle.abc_live_index.specs.StayInFront.{StayInFront}
use Rattle.abc_live_index.proofs.stretch_faults.put_tune_faults.Given as goal

-- what is put, and the faults of the rest
abbrev pub invariant-loop-place : goal.invariant-loop-place
invariant-loop-place g l = record {
  put : l.faults.items ++ faults_by (g.C.Compiler.rules l.compiler) l.stretch.before l.stretch.counts.now (drop l.place l.stretch.chains.now) (drop l.place l.stretch.places.now)
      ≡ l.initial.faults.items ++ faults_by (g.C.Compiler.rules l.compiler) l.stretch.before l.stretch.counts.now l.stretch.chains.now l.stretch.places.now;
  cells : AllZip (HasCells l.stretch.before l.stretch.counts.now) (drop l.place l.stretch.chains.now) (drop l.place l.stretch.places.now);
  front : StayInFront l.initial.faults.items l.faults.items;
}
