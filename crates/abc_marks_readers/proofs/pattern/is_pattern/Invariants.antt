use Rattle.std.proofs.Common.{◌≡◌, length}
use Rattle.std.specs.Prelude.{is_some}
use Rattle.abc_marks.specs.declared.directive.TheConstants.{MOST_STEPS}
use Rattle.abc_marks_readers.specs.Pattern.{steps_of}
use Rattle.abc_marks_readers.proofs.pattern.is_pattern.Given as goal

-- the rest has steps exactly if the text has
abbrev pub invariant-loop-rest : goal.invariant-loop-rest
invariant-loop-rest l = is_some (steps_of l.left l.rest) ≡ is_some (steps_of MOST_STEPS l.text)

abbrev pub decreases-loop-rest : goal.decreases-loop-rest
decreases-loop-rest l = length l.rest
