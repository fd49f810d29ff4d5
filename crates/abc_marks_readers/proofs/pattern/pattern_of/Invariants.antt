use Rattle.std.proofs.Common.{◌≡◌, ◌++◌, ◌+◌, ◌≤◌, length}
use Rattle.std.specs.Prelude.{All}
use Rattle.std.specs.Option.{option_map}
use Rattle.abc_marks.specs.Directive.{IsStep}
use Rattle.abc_marks.specs.declared.directive.TheConstants.{MOST_STEPS}
use Rattle.abc_marks_readers.specs.Pattern.{steps_of}
use Rattle.abc_marks_readers.proofs.pattern.pattern_of.Given as goal

-- the steps so far, and those of the rest
abbrev pub invariant-loop-rest : goal.invariant-loop-rest
invariant-loop-rest l = record {
  value : option_map (λ more. l.steps ++ more) (steps_of l.left l.rest) ≡ steps_of MOST_STEPS l.text;
  count : length l.steps + l.left ≡ MOST_STEPS;
  each : All IsStep l.steps;
  some : 1 ≤ length l.rest + length l.steps;
}

abbrev pub decreases-loop-rest : goal.decreases-loop-rest
decreases-loop-rest l = length l.rest
