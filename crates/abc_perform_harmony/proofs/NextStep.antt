-- One step of the accompaniment.
use Rattle.std.proofs.Common.{◌≡◌, ℕ, List, [], ◌∷◌, ◌++◌, take, drop, append_assoc}
use Rattle.abc_perform_chords.specs.declared.pattern_steps.StepSpan.{StepSpan}
use Rattle.abc_perform_item.specs.declared.performed.Performed.{Performed}
use Rattle.abc_perform_harmony.specs.declared.harmony.Harmony.{Harmony}
use Rattle.abc_perform_harmony.specs.declared.harmony_mark.Part.{Part}
use Rattle.abc_perform_harmony.specs.declared.harmony_mark.TimedMark.{TimedMark}
use Rattle.abc_perform_harmony.specs.Harmony.{harmony_after}
use Rattle.abc_perform_harmony.specs.ProgramItems.{program_items}
use Rattle.abc_perform_harmony.specs.StepItem.{step_item}
use Rattle.abc_perform_harmony.specs.StretchItems.{due_count, step_items}

-- The items after a step, and those of the steps after it, are all items.
pub next_step : (part : Part) (holds after : Harmony) (marks later : List TimedMark) (step : StepSpan) (steps : List StepSpan)
    (before programs with_item all : List Performed) (item : Performed) (count : ℕ)
    → count ≡ due_count step.from.0 marks → later ≡ drop count marks
    → programs ≡ before ++ program_items part (take count marks) → after ≡ harmony_after holds (take count marks)
    → item ≡ step_item part after step → with_item ≡ programs ++ item ∷ []
    → before ++ step_items part holds marks (step ∷ steps) ≡ all
    → with_item ++ step_items part after later steps ≡ all
next_step part holds after marks later step steps before programs with_item all item count counted rest put held made pushed known =
    rw (pushed, put, rest) (rw append_assoc (rw append_assoc (rw (made, held, counted) known)))
