use Rattle.abc_fold.proofs.Raised.{raised-none}
use Rattle.abc_live_text.proofs.PieceSteps.{pieces_cost}
use Rattle.abc_live_text.proofs.refold.Refold.chain_of.Goals as goal

pub returns-in_err-pieces-clause-counted : goal.returns-in_err-pieces-clause-counted
returns-in_err-pieces-clause-counted g c = raised-none _ _

pub returns-in_err-patch-clause-counted : goal.returns-in_err-patch-clause-counted
returns-in_err-patch-clause-counted g c =
    pieces_cost (g.F.Fold.steps c.args.self.now.fold.now) (g.met.F.Fold.resumable c.args.self.now.fold.now)
    c.args.self.now.opening.now c.args.self.now.chains.now.items c.args.self.now.rows.now c.args.block.now c.in_ok-pieces.pieces
    c.in_ok-pieces.ensures.sound c.in_ok-pieces.ensures.cells c.in_ok-pieces.ensures.kept_states c.prepare_pieces.ensures.counted

pub returns-clause-counted : goal.returns-clause-counted
returns-clause-counted g c =
    pieces_cost (g.F.Fold.steps c.args.self.now.fold.now) (g.met.F.Fold.resumable c.args.self.now.fold.now)
    c.args.self.now.opening.now c.args.self.now.chains.now.items c.args.self.now.rows.now c.args.block.now c.in_ok-pieces.pieces
    c.in_ok-pieces.ensures.sound c.in_ok-pieces.ensures.cells c.in_ok-pieces.ensures.kept_states c.prepare_pieces.ensures.counted
