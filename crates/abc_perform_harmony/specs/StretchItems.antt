-- The accompaniment of a stretch. ABC 2.1 section 4.18.
use Rattle.std.specs.Prelude.{ℕ, ◌+◌, ◌≤◌, nat_le, Bool, if◌then◌else◌, List, [], ◌∷◌, ◌++◌, take, drop}
use Rattle.abc_perform_note.specs.Length.{IsLengthOfANote}
use Rattle.abc_perform_chords.specs.declared.pattern_steps.StepSpan.{StepSpan}
use Rattle.abc_perform_item.specs.declared.performed.Performed.{Performed}
use Rattle.abc_perform_harmony.specs.declared.harmony.Harmony.{Harmony}
use Rattle.abc_perform_harmony.specs.declared.harmony_mark.Part.{Part}
use Rattle.abc_perform_harmony.specs.declared.harmony_mark.TimedMark.{TimedMark}
use Rattle.abc_perform_harmony.specs.Harmony.{harmony_after, without_chord}
use Rattle.abc_perform_harmony.specs.ProgramItems.{program_items}
use Rattle.abc_perform_harmony.specs.StepItem.{step_item}

-- A step ends no earlier than it begins, and no later than a note may be long.
pub record IsStep (step : StepSpan) : Type 0 where
  pub order : step.from.0 ≤ step.to.0
  pub to : IsLengthOfANote step.to.0

-- How many of the first marks are at or before a moment.
abbrev pub due_count : ℕ → List TimedMark → ℕ
due_count moment [] = 0
due_count moment (timed ∷ rest) = if nat_le timed.moment.0 moment then due_count moment rest + 1 else 0

-- The marks at or before a moment, and those after it.
abbrev pub due : ℕ → List TimedMark → List TimedMark
due moment marks = take (due_count moment marks) marks

abbrev pub later : ℕ → List TimedMark → List TimedMark
later moment marks = drop (due_count moment marks) marks

-- What a voice of the accompaniment plays in steps: in each the chord of the last mark at or before its beginning, after the
-- programs of these marks.
abbrev pub step_items : Part → Harmony → List TimedMark → List StepSpan → List Performed
step_items part harmony marks [] = program_items part marks
step_items part harmony marks (step ∷ steps) =
    program_items part (due step.from.0 marks)
    ++ step_item part (harmony_after harmony (due step.from.0 marks)) step
    ∷ step_items part (harmony_after harmony (due step.from.0 marks)) (later step.from.0 marks) steps

-- What a voice of the accompaniment plays in a stretch. In a pickup no mark before it names a chord.
abbrev pub stretch_items : Part → Bool → Harmony → List TimedMark → List StepSpan → List Performed
stretch_items part pickup harmony marks steps =
    step_items part (if pickup then without_chord harmony else harmony) marks steps
