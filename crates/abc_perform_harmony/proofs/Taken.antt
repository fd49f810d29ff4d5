-- The time that the accompaniment takes.
use Rattle.std.proofs.Common.{◌≡◌, ℕ, ◌-◌, if◌then◌else◌, Bool, true, false, Option, Some, None, List, [], ◌∷◌, refl, arith}
use Rattle.std.proofs.lemmas.List.Sums.{sum_by-append, sum_by-cons}
use Rattle.std.specs.Prelude.{sum_by}
use Rattle.abc_time.specs.declared.grains.Grains.{Grains}
use Rattle.abc_marks.specs.declared.directive.StepSound.{StepSound}
use Rattle.abc_perform_chords.specs.declared.pattern_steps.StepSpan.{StepSpan}
use Rattle.abc_perform_item.specs.declared.performed.Performed.{Performed}
use Rattle.abc_perform_item.specs.declared.performed.Place.{Place}
use Rattle.abc_perform_item.specs.Time.{time_of, time_of_all}
use Rattle.abc_perform_harmony.specs.declared.harmony.Harmony.{Harmony}
use Rattle.abc_perform_harmony.specs.declared.harmony_mark.Part.{Part}
use Rattle.abc_perform_harmony.specs.declared.harmony_mark.SoundingChord.{SoundingChord}
use Rattle.abc_perform_harmony.specs.declared.harmony_mark.TimedMark.{TimedMark}
use Rattle.abc_perform_harmony.specs.Harmony.{harmony_after, without_chord}
use Rattle.abc_perform_harmony.specs.KeepStep.{AccompanimentTakesTime}
use Rattle.abc_perform_harmony.specs.ProgramItems.{program_in, program_items, programs}
use Rattle.abc_perform_harmony.specs.StepItem.{chord_in_step, chord_item, keys_in, rest_item, step_item, step_length, velocity_of}
use Rattle.abc_perform_harmony.specs.StretchItems.{due, later, step_items}

-- Programs take no time.
program_time : (program : Option ℕ) → time_of_all (programs program) ≡ 0
program_time (Some program) = refl
program_time None = refl

programs_time : (part : Part) (marks : List TimedMark) → time_of_all (program_items part marks) ≡ 0
programs_time part [] = refl
programs_time part (timed ∷ marks) =
    let both = sum_by-append (λ (one : Performed). time_of one.item) (programs (program_in part timed.mark)) (program_items part marks) in
    let first = program_time (program_in part timed.mark) in
    let rest = programs_time part marks in
    omega (arith, both, first, rest)

-- What is played in a step takes its time.
chord_time : (velocity : ℕ) (place : Place) (long : Grains) (keys : List ℕ) → time_of (chord_item velocity place long keys).item ≡ long.0
chord_time velocity place long [] = refl
chord_time velocity place long (key ∷ keys) = refl

heard_time : (on : Bool) (velocity : ℕ) (place : Place) (long : Grains) (keys : List ℕ)
    → time_of (if on then chord_item velocity place long keys else rest_item long).item ≡ long.0
heard_time true velocity place long keys = chord_time velocity place long keys
heard_time false velocity place long keys = refl

in_step_time : (part : Part) (harmony : Harmony) (chord : Option SoundingChord) (long : Grains) (sound : StepSound)
    → time_of (chord_in_step part harmony chord long sound).item ≡ long.0
in_step_time part harmony None long sound = refl
in_step_time part harmony (Some chord) long sound =
    heard_time harmony.on (velocity_of part harmony) chord.place long (keys_in part chord sound)

-- Steps take their time.
steps_time : (part : Part) (harmony : Harmony) (marks : List TimedMark) (steps : List StepSpan)
    → time_of_all (step_items part harmony marks steps) ≡ sum_by (λ (step : StepSpan). step.to.0 - step.from.0) steps
steps_time part harmony marks [] = programs_time part marks
steps_time part harmony marks (step ∷ steps) =
    let before = due step.from.0 marks in
    let holds = harmony_after harmony before in
    let after = step_items part holds (later step.from.0 marks) steps in
    let both = sum_by-append (λ (one : Performed). time_of one.item) (program_items part before) (step_item part holds step ∷ after) in
    let none = programs_time part before in
    let split = sum_by-cons (λ (one : Performed). time_of one.item) (step_item part holds step) after in
    let first = in_step_time part holds holds.chord (step_length step) step.sound in
    let rest = steps_time part holds (later step.from.0 marks) steps in
    let sum = sum_by-cons (λ (one : StepSpan). one.to.0 - one.from.0) step steps in
    omega (arith, both, none, split, first, rest, sum)

pub takes_time : AccompanimentTakesTime
takes_time part pickup harmony marks steps = steps_time part (if pickup then without_chord harmony else harmony) marks steps
