-- What the accompaniment plays between bar lines and ending marks.
use Rattle.std.proofs.Common.{◌≡◌, ℕ, ◌+◌, ◌==◌, if◌then◌else◌, Bool, true, false, Option, Some, None, List, [], ◌∷◌, ◌++◌, refl, sym, ◌∙◌, ap, arith}
use Rattle.std.proofs.lemmas.List.Sums.{sum_by-cons}
use Rattle.abc_time.specs.declared.grains.Grains.{Grains}
use Rattle.abc_bars_items.specs.declared.item.Item.{Item}
use Rattle.abc_bars_items.specs.declared.item.Item.TheVariants as items
use Rattle.abc_marks.specs.declared.directive.StepSound.{StepSound}
use Rattle.abc_perform_chords.specs.declared.pattern_steps.StepSpan.{StepSpan}
use Rattle.abc_perform_item.specs.Time.{time_of, time_of_all}
use Rattle.abc_perform_item.specs.declared.performed.Performed.{Performed}
use Rattle.abc_perform_item.specs.declared.performed.Place.{Place}
use Rattle.abc_perform_layers.specs.KeepStep.{with_more}
use Rattle.abc_perform_harmony.specs.Harmony.{harmony_after, without_chord}
use Rattle.abc_perform_harmony.specs.ProgramItems.{program_in, program_items, programs}
use Rattle.abc_perform_harmony.specs.StepItem.{chord_in_step, chord_item, keys_in, rest_item, step_item, step_length, velocity_of}
use Rattle.abc_perform_harmony.specs.StretchItems.{due, later, step_items, stretch_items}
use Rattle.abc_perform_harmony.specs.declared.harmony.Harmony.{Harmony}
use Rattle.abc_perform_harmony.specs.declared.harmony_mark.Part.{Part}
use Rattle.abc_perform_harmony.specs.declared.harmony_mark.SoundingChord.{SoundingChord}
use Rattle.abc_perform_harmony.specs.declared.harmony_mark.TimedMark.{TimedMark}
use Rattle.abc_perform_accompaniment.specs.declared.stretch.StretchBegin.{StretchBegin}
use Rattle.abc_perform_accompaniment.specs.declared.stretch.StretchState.{StretchState}
use Rattle.abc_perform_accompaniment.specs.KeepStep.{bounds_with, played_bounds, played_times, times_with}
use Rattle.abc_perform_accompaniment.specs.StretchItems.{empty_rest, is_pickup, items_of_stretch, made_item, rest_if_any, steps_in}

-- An item that is neither a bar line nor an ending mark.
abbrev pub IsPlain : Item → Type 0
IsPlain (items.Bar line) = ⊥
IsPlain (items.Ending passes) = ⊥
IsPlain _ = Unit {0}

abbrev pub ArePlain : List Performed → Type 0
ArePlain [] = Unit {0}
ArePlain (one ∷ rest) = IsPlain one.item × ArePlain rest

plain_append : (these those : List Performed) → ArePlain these → ArePlain those → ArePlain (these ++ those)
plain_append [] those a b = b
plain_append (one ∷ these) those a b = (a.0, plain_append these those a.1 b)

-- Programs are plain.
plain_program : (program : Option ℕ) → ArePlain (programs program)
plain_program (Some program) = (tt, tt)
plain_program None = tt

plain_programs : (part : Part) (marks : List TimedMark) → ArePlain (program_items part marks)
plain_programs part [] = tt
plain_programs part (timed ∷ marks) =
    plain_append (programs (program_in part timed.mark)) (program_items part marks)
    (plain_program (program_in part timed.mark)) (plain_programs part marks)

-- What is played in a step is plain.
plain_chord : (velocity : ℕ) (place : Place) (long : Grains) (keys : List ℕ) → IsPlain (chord_item velocity place long keys).item
plain_chord velocity place long [] = tt
plain_chord velocity place long (key ∷ keys) = tt

plain_heard : (on : Bool) (velocity : ℕ) (place : Place) (long : Grains) (keys : List ℕ)
    → IsPlain (if on then chord_item velocity place long keys else rest_item long).item
plain_heard true velocity place long keys = plain_chord velocity place long keys
plain_heard false velocity place long keys = tt

plain_in_step : (part : Part) (harmony : Harmony) (chord : Option SoundingChord) (long : Grains) (sound : StepSound)
    → IsPlain (chord_in_step part harmony chord long sound).item
plain_in_step part harmony None long sound = tt
plain_in_step part harmony (Some chord) long sound =
    plain_heard harmony.on (velocity_of part harmony) chord.place long (keys_in part chord sound)

plain_steps : (part : Part) (harmony : Harmony) (marks : List TimedMark) (steps : List StepSpan)
    → ArePlain (step_items part harmony marks steps)
plain_steps part harmony marks [] = plain_programs part marks
plain_steps part harmony marks (step ∷ steps) =
    let before = due step.from.0 marks in
    let holds = harmony_after harmony before in
    let after = step_items part holds (later step.from.0 marks) steps in
    plain_append (program_items part before) (step_item part holds step ∷ after) (plain_programs part before)
    (plain_in_step part holds holds.chord (step_length step) step.sound, plain_steps part holds (later step.from.0 marks) steps)

-- A rest without length is plain.
plain_rest : (empty : Bool) → ArePlain (if empty then made_item (items.Rest (record { 0 = 0 }) false) ∷ [] else [])
plain_rest true = (tt, tt)
plain_rest false = tt

plain_if_any : (begin : Option StretchBegin) (long : ℕ) → ArePlain (rest_if_any begin long)
plain_if_any None long = tt
plain_if_any (Some begin) long = plain_rest (long == 0)

-- What is played in a stretch is plain.
pub plain_stretch : (part : Part) (state : StretchState) → ArePlain (items_of_stretch part state)
plain_stretch part state =
    plain_append (empty_rest state) (stretch_items part (is_pickup state) state.setting.harmony state.marks (steps_in state))
    (plain_if_any state.begin state.length.0)
    (plain_steps part (if is_pickup state then without_chord state.setting.harmony else state.setting.harmony) state.marks (steps_in state))

-- Nothing more is the same.
pub with_nothing : (times : List ℕ) → with_more 0 times ≡ times
with_nothing [] = refl
with_nothing (first ∷ others) = ap (λ n. n ∷ others) (let e : 0 + first ≡ first = omega arith in e)

-- More twice is the sum more.
pub with_more_twice : (a b : ℕ) (times : List ℕ) → with_more a (with_more b times) ≡ with_more (a + b) times
with_more_twice a b [] = refl
with_more_twice a b (first ∷ others) = ap (λ n. n ∷ others) (let e : a + (b + first) ≡ a + b + first = omega arith in e)

-- A plain item makes its stretch longer, and is no bound.
times_plain : (item : Item) (times : List ℕ) → IsPlain item → times_with item times ≡ with_more (time_of item) times
times_plain (items.Bar line) times plain = absurd plain
times_plain (items.Ending passes) times plain = absurd plain
times_plain _ times plain = refl

bounds_plain : (item : Item) (bounds : List Item) → IsPlain item → bounds_with item bounds ≡ bounds
bounds_plain (items.Bar line) bounds plain = absurd plain
bounds_plain (items.Ending passes) bounds plain = absurd plain
bounds_plain _ bounds plain = refl

-- Plain items before others.
pub plain_times : (these rest : List Performed) → ArePlain these
    → played_times (these ++ rest) ≡ with_more (time_of_all these) (played_times rest)
plain_times [] rest plain = sym (with_nothing (played_times rest))
plain_times (one ∷ these) rest plain =
    let first = times_plain one.item (played_times (these ++ rest)) plain.0 in
    let others = ap (λ times. with_more (time_of one.item) times) (plain_times these rest plain.1) in
    let twice = with_more_twice (time_of one.item) (time_of_all these) (played_times rest) in
    let sum = ap (λ n. with_more n (played_times rest)) (sym (sum_by-cons (λ (one : Performed). time_of one.item) one these)) in
    first ∙ others ∙ twice ∙ sum

pub plain_bounds : (these rest : List Performed) → ArePlain these → played_bounds (these ++ rest) ≡ played_bounds rest
plain_bounds [] rest plain = refl
plain_bounds (one ∷ these) rest plain =
    bounds_plain one.item (played_bounds (these ++ rest)) plain.0 ∙ plain_bounds these rest plain.1
