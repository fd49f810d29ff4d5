use Rattle.abc_tune_compiler.proofs.Within.{faults_in_lines}
use Rattle.abc_tune_compiler.proofs.laws.faults_are_in_tunes.Goals as goal

pub returns : goal.returns
returns g c = faults_in_lines
