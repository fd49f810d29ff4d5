use Rattle.abc_bars.proofs.LookBack.LineFaults.{length_faults_of_lines}
use Rattle.abc_bars.proofs.laws.line_lengths.length_faults_in_lines.Goals as goal

pub returns : goal.returns
returns c = length_faults_of_lines
