use Rattle.abc_bars_voice.specs.Equality.{test_by}
use Rattle.abc_marks_fold.specs.PerformedSteps.{same_state, state_equality}
use Rattle.abc_marks_fold.proofs.performed_fold.PerformedFoldFold.same.Goals as goal

pub returns : goal.returns
unfolding same_state
returns c = λ performed. test_by state_equality c.same.result c.args.a.now c.args.b.now c.same.ensures
