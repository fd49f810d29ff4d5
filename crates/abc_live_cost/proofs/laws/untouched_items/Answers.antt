use Rattle.abc_live_cost.proofs.Steps.{untouched_items}
use Rattle.abc_live_cost.proofs.laws.untouched_items.Goals as goal

pub returns : goal.returns
returns g c = untouched_items
