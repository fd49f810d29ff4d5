use Rattle.abc_live_cost.proofs.Origins.{origins_agree, pasts_held}
use Rattle.abc_live_cost.proofs.laws.origins_agree.Goals as goal

pub returns-clause-origins : goal.returns-clause-origins
returns-clause-origins g c = origins_agree

pub returns-clause-pasts : goal.returns-clause-pasts
returns-clause-pasts g c = pasts_held
