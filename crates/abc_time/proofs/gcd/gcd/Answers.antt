use Rattle.std.proofs.Common.{arith}
use Rattle.abc_time.proofs.Divisors.{SharesDivisors-start, SharesDivisors-mod, SharesDivisors-end}
use Rattle.abc_time.proofs.gcd.gcd.Goals as goal

pub loop-y-init : goal.loop-y-init
loop-y-init c = SharesDivisors-start _ _

pub loop-y-preserved : goal.loop-y-preserved
loop-y-preserved c = SharesDivisors-mod _ _ _ _ c.loop-y.invariant

pub returns : goal.returns
returns c = SharesDivisors-end _ _ _ _ (omega arith) c.loop-y.invariant
