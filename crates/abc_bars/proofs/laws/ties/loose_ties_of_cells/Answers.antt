use Rattle.abc_bars.proofs.LookBack.Ties.{filter-loose_ties}
use Rattle.abc_bars.proofs.laws.ties.loose_ties_of_cells.Goals as goal

pub returns : goal.returns
returns c = filter-loose_ties
