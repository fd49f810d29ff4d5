use Rattle.abc_live_cost.proofs.SameCells.{cells_are_things, carried_cells}
use Rattle.abc_live_cost.proofs.laws.carried_cells.Goals as goal

pub returns-clause-things : goal.returns-clause-things
returns-clause-things g c = cells_are_things

pub returns-clause-carried : goal.returns-clause-carried
returns-clause-carried g c = carried_cells
