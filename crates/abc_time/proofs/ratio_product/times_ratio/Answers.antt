use Rattle.abc_time.proofs.Steps.{scaled}
use Rattle.abc_time.proofs.ratio_product.times_ratio.Goals as goal

pub returns : goal.returns
returns c = scaled _ _ _ _ _ _ _ c.in_ok-quotient.ensures c.in_ok-product.ensures.1 c.from.ensures c.from-2.ensures
