use Rattle.abc_live_text.proofs.PieceEnds.{ends_before}
use Rattle.abc_live_text.proofs.refold.Refold.append_row.Goals as goal

pub append_cells-requires-clause-known : goal.append_cells-requires-clause-known
append_cells-requires-clause-known g c = λ known.
    ends_before c.args.self.now.chains.now.items c.args.pieces.now c.args.end c.args.row.now.origin (c.goes_on.ensures.origin known) (c.goes_on.ensures.same known) c.requires.ends
