use Rattle.std.proofs.Common.{◌≡◌, ◌++◌}
use Rattle.abc_perform_patterns.specs.MeterPattern.{repeated}
use Rattle.abc_perform_patterns.proofs.meter_pattern.put_repeated.Given as goal

abbrev pub invariant-loop : goal.invariant-loop
invariant-loop l = l.pattern ≡ l.initial.pattern ++ repeated l.counter l.steps
