use Rattle.abc_publish.proofs.SettledState.{settled_is_current, current_is_settled}
use Rattle.abc_publish.proofs.laws.settled_is_current.Goals as goal

pub returns-clause-current : goal.returns-clause-current
returns-clause-current c = settled_is_current

pub returns-clause-settled : goal.returns-clause-settled
returns-clause-settled c = current_is_settled
