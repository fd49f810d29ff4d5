use Rattle.std.proofs.Common.{◌∙◌, arith}
use Rattle.abc_marks_readers.proofs.Steps.{one_read}
use Rattle.abc_marks_readers.proofs.pattern.is_pattern.Goals as goal

pub loop-rest-preserved : goal.loop-rest-preserved
loop-rest-preserved c =
    let some = c.if-left-eq0.false in
    one_read c.loop-rest.left _ _ _ (grind (arith, some)) c.in-Some.ensures.value ∙ c.loop-rest.invariant
