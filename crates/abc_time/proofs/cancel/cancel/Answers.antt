use Rattle.std.proofs.Common.{arith}
use Rattle.abc_time.proofs.Cancelling.{common_positive, Cancels-step, Cancels-whole_step, Cancels-end}
use Rattle.abc_time.proofs.cancel.cancel.Goals as goal
use Rattle.abc_time.proofs.cancel.cancel.Goals.{then-numerator-rest-eq0, else-numerator-rest-eq0}

pub nonzero_div-numerator-else-numerator-rest-eq0 : goal.nonzero_div-numerator-else-numerator-rest-eq0
nonzero_div-numerator-else-numerator-rest-eq0 c =
    common_positive _ _ _ c.gcd-common.ensures c.loop-numerator.invariant.left_over

pub nonzero_div-rest : goal.nonzero_div-rest
nonzero_div-rest c = common_positive _ _ _ c.gcd-common.ensures c.loop-numerator.invariant.left_over

pub loop-numerator-preserved : goal.loop-numerator-preserved
loop-numerator-preserved c =
    elim c.if-numerator-rest-eq0.branch [
      | then-numerator-rest-eq0 w ↦
          rw (w.numerators-is, w.rest-is)
          (Cancels-whole_step _ _ _ _ _ c.loop-numerator.invariant (omega arith) w.if-numerator-rest-eq0.true)
      | else-numerator-rest-eq0 w ↦
          rw (w.numerators-is, w.rest-is)
          (Cancels-step _ _ _ _ _ _ c.loop-numerator.invariant (omega arith) w.gcd-common.ensures)
    ]

pub returns-after-loop-numerator-clause-whole : goal.returns-after-loop-numerator-clause-whole
returns-after-loop-numerator-clause-whole c =
    Cancels-end _ _ _ _ _ c.loop-numerator.invariant (omega arith)
