use Rattle.abc_live_cost.proofs.FreshCounts.{rows_count_fresh_cells, edits_count}
use Rattle.abc_live_cost.proofs.laws.rows_count_fresh_cells.Goals as goal

pub returns-clause-count : goal.returns-clause-count
returns-clause-count g c = rows_count_fresh_cells

pub returns-clause-edits : goal.returns-clause-edits
returns-clause-edits g c = edits_count
