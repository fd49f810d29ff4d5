use Rattle.abc_fold.proofs.Raised.{raised-none}
use Rattle.abc_live_text.proofs.WholeOldTunes.{shared_chain, shared_new}
use Rattle.abc_live_text.proofs.refold.Refold.chain_over.Goals as goal

pub returns-in-Some-clause-chain : goal.returns-in-Some-clause-chain
returns-in-Some-clause-chain g c =
    let steps = g.F.Fold.steps c.args.self.now.fold.now in
    shared_chain steps c.args.self.now.opening.now c.args.self.now.rows.now c.args.block.now c.in-Some.chain.now c.share.result c.share.ensures c.in-Some.ensures.folds c.in-Some.ensures.cells

pub returns-in-Some-clause-counted : goal.returns-in-Some-clause-counted
returns-in-Some-clause-counted g c = raised-none _ _

pub returns-in_ok-chain-in-None-clause-chain : goal.returns-in_ok-chain-in-None-clause-chain
returns-in_ok-chain-in-None-clause-chain g c =
    let steps = g.F.Fold.steps c.args.self.now.fold.now in
    shared_new steps c.args.self.now.opening.now c.args.self.now.rows.now c.args.block.now c.in_ok-chain-in-None.chain c.new.result c.new.ensures c.in_ok-chain-in-None.ensures.chain
