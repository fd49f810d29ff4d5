-- The accompaniment keeps step.
use Rattle.std.specs.Prelude.{◌≡◌, ℕ, ◌≤◌, Bool, true, List}
use Rattle.abc_fields.specs.declared.meter.Meter.{Meter}
use Rattle.abc_fields.specs.Meter.{IsMeterInRange}
use Rattle.abc_marks.specs.declared.directive.Step.{Step}
use Rattle.abc_perform_chords.specs.PatternSteps.{IsChain, spans_from, total_count}
use Rattle.abc_perform_patterns.specs.MeterPattern.{default_pattern}
use Rattle.abc_perform_patterns.specs.Stretch.{stretch_steps}

-- The steps of a pattern follow one another without gaps from the beginning of a stretch to its end. A pickup is no longer than a
-- bar.
abbrev pub StepsFillStretch : Type 0
StepsFillStretch = (pickup : Bool) (bar length : ℕ) (pattern : List Step) → 1 ≤ total_count pattern → 1 ≤ bar
    → (pickup ≡ true → length ≤ bar)
    → IsChain 0 length (stretch_steps pickup bar length (spans_from bar (total_count pattern) 0 pattern))

-- Each pattern that a meter has takes 1 to 510 counts.
abbrev pub DefaultPatternsFit : Type 0
DefaultPatternsFit = (meter : Meter) → IsMeterInRange meter
    → (1 ≤ total_count (default_pattern meter)) × (total_count (default_pattern meter) ≤ 510)
