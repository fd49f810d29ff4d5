use Rattle.abc_live_index.proofs.ReplacedFaults.{faults_meet}
use Rattle.abc_live_index.proofs.laws.faults_meet.Goals as goal

pub returns : goal.returns
returns c = faults_meet
