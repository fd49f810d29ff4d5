use Rattle.std.proofs.Common.{◌≡◌, ◌++◌, ◌-◌, ◌*◌}
use Rattle.abc_perform_patterns.specs.Stretch.{bars_in, repeated_steps}
use Rattle.abc_perform_patterns.proofs.stretch.put_bars.Given as goal

abbrev pub invariant-loop-index : goal.invariant-loop-index
invariant-loop-index l =
    l.steps ++ repeated_steps (bars_in l.length.0 l.bar.0 - l.index) (l.index * l.bar.0) l.bar.0 l.length.0 l.spans
    ≡ l.initial.steps ++ repeated_steps (bars_in l.length.0 l.bar.0) 0 l.bar.0 l.length.0 l.spans
