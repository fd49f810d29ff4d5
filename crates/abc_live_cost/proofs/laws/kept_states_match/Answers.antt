use Rattle.abc_live_cost.proofs.KeptStates.{kept_states_match}
use Rattle.abc_live_cost.proofs.laws.kept_states_match.Goals as goal

pub returns : goal.returns
returns g c = kept_states_match
