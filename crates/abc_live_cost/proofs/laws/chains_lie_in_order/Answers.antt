use Rattle.abc_live_cost.proofs.Words.{chains_lie_in_order}
use Rattle.abc_live_cost.proofs.laws.chains_lie_in_order.Goals as goal

pub returns : goal.returns
returns g c = chains_lie_in_order
