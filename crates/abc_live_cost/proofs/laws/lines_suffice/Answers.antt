use Rattle.abc_live_cost.proofs.ByLines.{lines_suffice}
use Rattle.abc_live_cost.proofs.laws.lines_suffice.Goals as goal

pub returns : goal.returns
returns g c = lines_suffice
