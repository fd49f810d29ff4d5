use Rattle.std.proofs.Common.{get_or}
use Rattle.std.proofs.lemmas.List.{get_or_default}
use Rattle.abc_book.specs.declared.block.Block.{Block}
use Rattle.abc_book.specs.declared.block.BlockKind.TheVariants.{FileHeader}
use Rattle.abc_fold.proofs.Folding.{within_raised}
use Rattle.abc_live_text.specs.Pieces.{IsChain, steps_taken}
use Rattle.abc_live_text.proofs.PieceSteps.{sum_next, zip_next}
use Rattle.abc_live_text.proofs.refold.Refold.tune_chains.Goals as goal

abbrev none : Block
none = record { kind = FileHeader; from = 0; to = 0 }

pub returns-in_err-chain-clause-counted : goal.returns-in_err-chain-clause-counted
returns-in_err-chain-clause-counted g c = within_raised _ _ _ _
    (sum_next (steps_taken (g.F.Fold.steps c.args.self.now.fold.now) c.args.self.now.opening.now c.args.self.now.chains.now.items c.args.self.now.rows.now)
    c.args.blocks.now c.loop-block.block-index none c.loop-block-test.true c.loop-block.invariant.within c.chain_over.ensures.counted)

pub returns-in_err-push-clause-counted : goal.returns-in_err-push-clause-counted
returns-in_err-push-clause-counted g c = within_raised _ _ _ _
    (sum_next (steps_taken (g.F.Fold.steps c.args.self.now.fold.now) c.args.self.now.opening.now c.args.self.now.chains.now.items c.args.self.now.rows.now)
    c.args.blocks.now c.loop-block.block-index none c.loop-block-test.true c.loop-block.invariant.within c.chain_over.ensures.counted)

pub loop-block-preserved : goal.loop-block-preserved
loop-block-preserved g c =
    let steps = g.F.Fold.steps c.args.self.now.fold.now in
    let block = get_or c.args.blocks.now c.loop-block.block-index none in
    record {
      chains = rw c.in_ok-push.ensures.items
          (zip_next (IsChain steps c.args.self.now.opening.now c.args.self.now.rows.now) c.loop-block.chains.items c.args.blocks.now c.loop-block.block-index c.in_ok-chain.chain block
          c.loop-block.invariant.chains c.in_ok-chain.ensures.chain (get_or_default c.args.blocks.now c.loop-block.block-index none block c.loop-block-test.true) c.loop-block-test.true);
      within = sum_next (steps_taken (g.F.Fold.steps c.args.self.now.fold.now) c.args.self.now.opening.now c.args.self.now.chains.now.items c.args.self.now.rows.now)
          c.args.blocks.now c.loop-block.block-index none c.loop-block-test.true c.loop-block.invariant.within c.chain_over.ensures.counted;
    }

pub returns-clause-counted : goal.returns-clause-counted
returns-clause-counted g c = within_raised _ _ _ _ c.loop-block.invariant.within
