use Rattle.abc_live_cost.proofs.WorkedEdits.{worked_edits}
use Rattle.abc_live_cost.proofs.laws.worked_edits.Goals as goal

pub returns : goal.returns
returns c = worked_edits
