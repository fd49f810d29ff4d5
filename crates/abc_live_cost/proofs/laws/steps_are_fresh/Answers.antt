use Rattle.abc_live_cost.proofs.Steps.{steps_are_fresh}
use Rattle.abc_live_cost.proofs.laws.steps_are_fresh.Goals as goal

pub returns : goal.returns
returns g c = steps_are_fresh
