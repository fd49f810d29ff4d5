use Rattle.abc_voices.proofs.Orders.{in_last_order}
use Rattle.abc_voices.proofs.laws.sections_in_last_order.Goals as goal

pub returns : goal.returns
returns c = in_last_order
