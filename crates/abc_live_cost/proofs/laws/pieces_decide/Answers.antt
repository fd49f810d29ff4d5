use Rattle.abc_live_cost.proofs.Pieces.{pieces_decide}
use Rattle.abc_live_cost.proofs.laws.pieces_decide.Goals as goal

pub returns : goal.returns
returns g c = pieces_decide
