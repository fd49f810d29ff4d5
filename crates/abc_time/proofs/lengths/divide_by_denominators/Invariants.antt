use Rattle.abc_time.specs.Product.{product_of}
use Rattle.abc_time.proofs.Denominators.{IsDivided}
use Rattle.abc_time.proofs.lengths.divide_by_denominators.Given as goal

abbrev pub invariant-loop-factor : goal.invariant-loop-factor
invariant-loop-factor l = IsDivided (product_of l.fn.numerators) l.fn.unit l.factors l.numerators l.factor-index
