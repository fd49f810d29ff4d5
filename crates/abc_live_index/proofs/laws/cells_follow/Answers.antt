use Rattle.abc_live_index.proofs.ChainOutputs.{has_cells}
use Rattle.abc_live_index.proofs.laws.cells_follow.Goals as goal

pub returns : goal.returns
returns g c = λ steps read opening text before count chain place is lies inside. has_cells steps read opening text chain place is before count lies inside
