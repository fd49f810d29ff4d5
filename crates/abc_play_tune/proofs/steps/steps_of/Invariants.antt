use Rattle.std.proofs.Common.{◌≡◌, ◌++◌, drop}
use Rattle.abc_play_tune.specs.Steps.{steps_from}
use Rattle.abc_play_tune.proofs.steps.steps_of.Given as goal

-- the steps so far, and those of the rest
abbrev pub invariant-loop-place : goal.invariant-loop-place
invariant-loop-place l = l.steps.items ++ steps_from l.place (drop l.place l.tune) ≡ steps_from 0 l.tune
