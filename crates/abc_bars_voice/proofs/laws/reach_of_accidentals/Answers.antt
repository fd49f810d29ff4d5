use Rattle.abc_bars_voice.proofs.Canonical.{same_where_heard_alike}
use Rattle.abc_bars_voice.proofs.Reaching.{accidentals_reach}
use Rattle.abc_bars_voice.proofs.laws.reach_of_accidentals.Goals as goal

pub returns-clause-last : goal.returns-clause-last
returns-clause-last c = accidentals_reach

pub returns-clause-alike : goal.returns-clause-alike
returns-clause-alike c = same_where_heard_alike
