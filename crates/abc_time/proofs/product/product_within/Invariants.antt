use Rattle.std.proofs.Common.{◌≡◌, take}
use Rattle.abc_time.specs.Product.{product_of}
use Rattle.abc_time.proofs.product.product_within.Given as goal

abbrev pub invariant-loop-number : goal.invariant-loop-number
invariant-loop-number l = l.product ≡ product_of (take l.number-index l.numbers)
