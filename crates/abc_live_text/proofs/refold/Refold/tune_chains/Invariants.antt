use Rattle.std.proofs.Common.{take, drop}
use Rattle.std.specs.List.{AllZip, sum_by}
use Rattle.abc_fold.proofs.Folding.{IsWithin}
use Rattle.abc_live_text.specs.Pieces.{IsChain, steps_taken}
use Rattle.abc_live_text.proofs.refold.Refold.tune_chains.Given as goal

abbrev pub invariant-loop-block : goal.invariant-loop-block
invariant-loop-block g l = record {
  chains : AllZip (IsChain (g.F.Fold.steps l.self.fold.now) l.self.opening.now l.self.rows.now) l.chains.items (take l.block-index l.blocks);
  within : IsWithin (g.F.Work.Counts.counts l.initial.work) (g.F.Work.Counts.counts l.work)
      (sum_by (steps_taken (g.F.Fold.steps l.self.fold.now) l.self.opening.now l.self.chains.now.items l.self.rows.now) (drop l.block-index l.blocks))
      (sum_by (steps_taken (g.F.Fold.steps l.self.fold.now) l.self.opening.now l.self.chains.now.items l.self.rows.now) l.blocks);
}
