use Rattle.abc_bars.proofs.LookBack.Faults.{faults_looked_back}
use Rattle.abc_bars.proofs.laws.faults.faults_at_places.Goals as goal

pub returns : goal.returns
returns c = faults_looked_back
