use Rattle.std.proofs.Common.{◌≡◌, ◌+◌, ◌++◌, drop}
use Rattle.abc_perform_chords.specs.PatternSteps.{spans_from, total_count}
use Rattle.abc_perform_chords.proofs.pattern_steps.spans_of.Given as goal

abbrev pub invariant-loop-step : goal.invariant-loop-step
invariant-loop-step l =
    (l.spans ++ spans_from l.bar.0 l.total l.counted (drop l.step-index l.pattern)
    ≡ spans_from l.bar.0 l.total 0 l.pattern)
    × (l.counted + total_count (drop l.step-index l.pattern) ≡ total_count l.pattern)
