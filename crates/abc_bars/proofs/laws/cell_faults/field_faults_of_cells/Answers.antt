use Rattle.abc_bars.proofs.LookBack.FaultsOfFields.{field_faults}
use Rattle.abc_bars.proofs.laws.cell_faults.field_faults_of_cells.Goals as goal

pub returns : goal.returns
returns c = field_faults
