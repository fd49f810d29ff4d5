use Rattle.abc_time.proofs.Steps.{quotient_times}
use Rattle.abc_time.proofs.ratio_product.quotient.Goals as goal

pub returns-then-number-den-eq0 : goal.returns-then-number-den-eq0
returns-then-number-den-eq0 c = quotient_times _ _ c.if-number-den-eq0.true
