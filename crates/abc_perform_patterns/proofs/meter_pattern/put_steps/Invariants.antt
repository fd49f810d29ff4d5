use Rattle.std.proofs.Common.{◌≡◌, ◌++◌, drop}
use Rattle.abc_perform_patterns.proofs.meter_pattern.put_steps.Given as goal

abbrev pub invariant-loop-step : goal.invariant-loop-step
invariant-loop-step l = l.pattern ++ drop l.step-index l.steps ≡ l.initial.pattern ++ l.steps
