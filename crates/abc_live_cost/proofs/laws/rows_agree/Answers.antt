use Rattle.abc_live_cost.proofs.Rows.{rows_agree}
use Rattle.abc_live_cost.proofs.laws.rows_agree.Goals as goal

pub returns : goal.returns
returns g c = rows_agree
