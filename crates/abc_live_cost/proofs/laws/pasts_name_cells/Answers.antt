use Rattle.abc_live_cost.proofs.Steps.{pasts_name_cells}
use Rattle.abc_live_cost.proofs.laws.pasts_name_cells.Goals as goal

pub returns : goal.returns
returns g c = pasts_name_cells
