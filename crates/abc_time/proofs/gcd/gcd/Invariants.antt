use Rattle.abc_time.proofs.Divisors.{SharesDivisors}
use Rattle.abc_time.proofs.gcd.gcd.Given as goal

abbrev pub invariant-loop-y : goal.invariant-loop-y
invariant-loop-y l = SharesDivisors l.fn.a l.fn.b l.x l.y

abbrev pub decreases-loop-y : goal.decreases-loop-y
decreases-loop-y l = l.y
