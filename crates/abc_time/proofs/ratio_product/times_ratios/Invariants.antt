use Rattle.abc_time.proofs.Steps.{IsScaled}
use Rattle.abc_time.proofs.ratio_product.times_ratios.Given as goal

abbrev pub invariant-loop-factor : goal.invariant-loop-factor
invariant-loop-factor l = IsScaled l.fn.number l.fn.unit l.factors l.product l.factor-index
