use Rattle.std.proofs.Common.{arith}
use Rattle.abc_time.proofs.Products.{product_of-next, product_of-above}
use Rattle.abc_time.proofs.product.product_within.Goals as goal

pub returns-in_err-product : goal.returns-in_err-product
returns-in_err-product c =
    rw c.from_residual.ensures
    (product_of-above _ _ _ _ c.requires c.loop-number-test.true c.loop-number.invariant c.in_err-product.ensures (omega arith))

pub loop-number-preserved : goal.loop-number-preserved
loop-number-preserved c =
    product_of-next _ _ _ _ c.loop-number-test.true c.loop-number.invariant c.in_ok-product.ensures.1
