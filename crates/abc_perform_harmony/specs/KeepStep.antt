-- The accompaniment keeps step.
use Rattle.std.specs.Prelude.{◌≡◌, ◌-◌, Bool, List, sum_by}
use Rattle.abc_perform_chords.specs.declared.pattern_steps.StepSpan.{StepSpan}
use Rattle.abc_perform_item.specs.Time.{time_of_all}
use Rattle.abc_perform_harmony.specs.declared.harmony.Harmony.{Harmony}
use Rattle.abc_perform_harmony.specs.declared.harmony_mark.Part.{Part}
use Rattle.abc_perform_harmony.specs.declared.harmony_mark.TimedMark.{TimedMark}
use Rattle.abc_perform_harmony.specs.StretchItems.{stretch_items}

-- Whatever marks a stretch has, both voices of the accompaniment take the time of its steps.
abbrev pub AccompanimentTakesTime : Type 0
AccompanimentTakesTime = (part : Part) (pickup : Bool) (harmony : Harmony) (marks : List TimedMark) (steps : List StepSpan)
    → time_of_all (stretch_items part pickup harmony marks steps) ≡ sum_by (λ step. step.to.0 - step.from.0) steps
