use Rattle.abc_time.proofs.Steps.{IsScaled-step}
use Rattle.abc_time.proofs.ratio_product.times_ratios.Goals as goal

pub loop-factor-preserved : goal.loop-factor-preserved
loop-factor-preserved c = IsScaled-step _ _ _ _ _ _ _ c.loop-factor.invariant c.loop-factor-test.true c.in_ok-product-2.ensures
