use Rattle.abc_bars.proofs.LookBack.FaultsOfSpelling.{spelling_faults}
use Rattle.abc_bars.proofs.laws.cell_faults.spelling_faults_of_cells.Goals as goal

pub returns : goal.returns
returns c = spelling_faults
