use Rattle.abc_time.proofs.Cancelling.{Cancels}
use Rattle.abc_time.proofs.cancel.cancel.Given as goal

abbrev pub invariant-loop-numerator : goal.invariant-loop-numerator
invariant-loop-numerator l = Cancels l.fn.numerators l.divisor l.numerators l.numerator-index l.rest
