use Rattle.abc_publish.proofs.SettledState.{job_once}
use Rattle.abc_publish.proofs.laws.job_once.Goals as goal

pub returns : goal.returns
returns c = job_once
