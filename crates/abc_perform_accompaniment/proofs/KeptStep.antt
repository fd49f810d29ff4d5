-- The accompaniment is as long as the first layer of the voice.
use Rattle.std.proofs.Common.{◌≡◌, ℕ, ◌+◌, ◌-◌, ◌≤◌, ◌==◌, ◌&&◌, not, nat_lt, if◌then◌else◌, Bool, true, false, Option, Some, None, List, [], ◌∷◌, ◌++◌, All, map, refl, sym, ◌∙◌, ap, arith, append_assoc, append-nil, ltb-true}
use Rattle.std.proofs.lemmas.Bool.{ltb-false}
use Rattle.std.proofs.lemmas.Bool.Decides.{nat_tests}
use Rattle.std.proofs.lemmas.List.Elements.{All-head, All-tail, All-weaker}
use Rattle.std.proofs.lemmas.List.Sums.{sum_by-append, sum_by-cons}
use Rattle.std.specs.Prelude.{IfNone, IfSome, sum_by}
use Rattle.abc_time.specs.declared.grains.Grains.{Grains}
use Rattle.abc_bars_items.specs.declared.item.Item.TheVariants as items
use Rattle.abc_fields.specs.Meter.{IsMeterInRange}
use Rattle.abc_fields.specs.declared.meter.Meter.{Meter}
use Rattle.abc_fields.specs.declared.meter.Meter.TheVariants.{Free, Of}
use Rattle.abc_marks.specs.Directive.{IsPattern}
use Rattle.abc_marks.specs.declared.directive.Step.{Step}
use Rattle.abc_perform_chords.specs.PatternSteps.{IsChain, spans_from, total_count}
use Rattle.abc_perform_chords.specs.declared.pattern_steps.StepSpan.{StepSpan}
use Rattle.abc_perform_item.specs.Time.{time_of, time_of_all}
use Rattle.abc_perform_item.specs.declared.performed.Performed.{Performed}
use Rattle.abc_perform_layers.specs.KeepStep.{with_more, written_times}
use Rattle.abc_perform_patterns.proofs.Counts.{defaults_fit}
use Rattle.abc_perform_patterns.proofs.Filled.{steps_fill_stretch}
use Rattle.abc_perform_patterns.specs.Stretch.{stretch_steps}
use Rattle.abc_perform_harmony.proofs.Taken.{takes_time}
use Rattle.abc_perform_harmony.specs.StretchItems.{stretch_items}
use Rattle.abc_perform_harmony.specs.declared.harmony_mark.Part.{Part}
use Rattle.abc_perform_accompaniment.specs.declared.stretch.StretchBegin.{StretchBegin}
use Rattle.abc_perform_accompaniment.specs.declared.stretch.StretchState.{StretchState}
use Rattle.abc_perform_accompaniment.specs.declared.voice_step.VoiceStep.{VoiceStep}
use Rattle.abc_perform_accompaniment.specs.declared.voice_step.VoiceStep.TheVariants as steps
use Rattle.abc_perform_accompaniment.specs.KeepStep.{AccompanimentKeepsStep, played_times}
use Rattle.abc_perform_accompaniment.specs.Section.{items_from, state_after}
use Rattle.abc_perform_accompaniment.specs.Stretch.{IsBegin, begin_or, begun, section_opening, with_step, with_time}
use Rattle.abc_perform_accompaniment.specs.StretchItems.{bar_of, empty_rest, is_pickup, items_of_stretch, made_item, pattern_in, pickup_in, rest_if_any, steps_from, steps_if_any, steps_in}
use Rattle.abc_perform_accompaniment.specs.VoiceStep.{IsVoiceStep, role_of}
use Rattle.abc_perform_accompaniment.proofs.Bars.{bar_is_some, pattern_counts}
use Rattle.abc_perform_accompaniment.proofs.Plain.{plain_stretch, plain_times, with_more_twice, with_nothing}
use Rattle.abc_perform_accompaniment.proofs.Steps.{EndsBy, IsWithin, spans_end, steps_within}

-- The time of steps without gaps.
chain_time : (most from to : ℕ) (steps : List StepSpan) → IsChain from to steps → All (IsWithin most) steps
    → sum_by (λ (step : StepSpan). step.to.0 - step.from.0) steps + from ≡ to
chain_time most from to [] chain within = omega (arith, chain)
chain_time most from to (step ∷ steps) chain within =
    let first = All-head (IsWithin most) step steps within in
    let order = first.order in
    let begin = chain.0 in
    let rest = chain_time most step.to.0 to steps chain.1 (All-tail (IsWithin most) step steps within) in
    let sum = sum_by-cons (λ (one : StepSpan). one.to.0 - one.from.0) step steps in
    omega (arith, order, begin, rest, sum)

-- A pattern that holds has a count.
pattern_some : (meter : Meter) (written : Option (List Step)) → IsMeterInRange meter → IfSome written IsPattern
    → 1 ≤ total_count (pattern_in meter written)
pattern_some Free written range known = (defaults_fit Free range).0
pattern_some (Of num den) None range known = (defaults_fit (Of num den) range).0
pattern_some (Of num den) (Some pattern) range known = (pattern_counts pattern known).0

-- A pickup is no longer than a bar.
pickup_short : (first : Bool) (long bar : ℕ) → (first && nat_lt long bar) ≡ true → long ≤ bar
pickup_short true long bar e = let lt = ltb-true long bar e in omega (arith, lt)
pickup_short false long bar e = absurd (let n : ⊥ = grind arith in n)

-- The steps of a stretch with some length take its time.
begun_time : (first : Bool) (begin : StretchBegin) (long : ℕ) → IsBegin begin → 1 ≤ long
    → sum_by (λ (step : StepSpan). step.to.0 - step.from.0) (steps_from first begin long) ≡ long
begun_time first begin long known some =
    let bar = bar_of begin.meter long in
    let pattern = pattern_in begin.meter begin.pattern in
    let pickup = pickup_in first begin.meter long in
    let spans = spans_from bar (total_count pattern) 0 pattern in
    let chain = steps_fill_stretch pickup bar long pattern (pattern_some begin.meter begin.pattern known.meter known.pattern)
    (bar_is_some begin.meter long known.meter some) (pickup_short first long bar) in
    let early = All-weaker (EndsBy bar) (EndsBy (long + bar))
    (λ span ends. (let from = ends.from in let to = ends.to in record { from = omega (arith, from); to = omega (arith, to) }))
    spans (spans_end bar (total_count pattern) 0 pattern (omega arith)) in
    let within = steps_within (long + bar) pickup bar long spans (omega arith) early in
    let time = chain_time (long + bar) 0 long (stretch_steps pickup bar long spans) chain within in
    omega (arith, time)

-- The steps of a stretch take its time.
taken : (first : Bool) (begin : StretchBegin) (long : ℕ) (takes : Bool) → nat_lt 0 long ≡ takes → IsBegin begin
    → sum_by (λ (step : StepSpan). step.to.0 - step.from.0) (if takes then steps_from first begin long else []) ≡ long
taken first begin long true is known =
    let some = ltb-true 0 long is in begun_time first begin long known (omega (arith, some))
taken first begin long false is known =
    let none = ltb-false 0 long is in let e : 0 ≡ long = omega (arith, none) in e

steps_time : (first : Bool) (begin : Option StretchBegin) (long : ℕ) → IfSome begin IsBegin → IfNone begin (long ≡ 0)
    → sum_by (λ (step : StepSpan). step.to.0 - step.from.0) (steps_if_any first begin long) ≡ long
steps_time first None long known empty = sym empty
steps_time first (Some begin) long known empty = taken first begin long (nat_lt 0 long) refl known

-- A rest without length takes no time.
rest_time : (empty : Bool) → time_of_all (if empty then made_item (items.Rest (record { 0 = 0 }) false) ∷ [] else []) ≡ 0
rest_time true = refl
rest_time false = refl

empty_time : (begin : Option StretchBegin) (long : ℕ) → time_of_all (rest_if_any begin long) ≡ 0
empty_time None long = refl
empty_time (Some begin) long = rest_time (long == 0)

-- What a state says of its stretch.
record InStep (state : StretchState) : Type 0 where
  meter : IsMeterInRange state.setting.meter
  pattern : IfSome state.setting.pattern IsPattern
  begin : IfSome state.begin IsBegin
  unbegun : IfNone state.begin (state.length.0 ≡ 0)

-- What is played in a stretch is as long as it.
stretch_time : (part : Part) (state : StretchState) → InStep state → time_of_all (items_of_stretch part state) ≡ state.length.0
stretch_time part state known =
    let these = stretch_items part (is_pickup state) state.setting.harmony state.marks (steps_in state) in
    let both = sum_by-append (λ (one : Performed). time_of one.item) (empty_rest state) these in
    let none = empty_time state.begin state.length.0 in
    let steps = takes_time part (is_pickup state) state.setting.harmony state.marks (steps_in state) in
    let long = steps_time state.first state.begin state.length.0 known.begin known.unbegun in
    omega (arith, both, none, steps, long)

-- The times of a stretch and of those after it.
played : (part : Part) (state : StretchState) (rest : List Performed) → InStep state
    → played_times (items_of_stretch part state ++ rest) ≡ with_more state.length.0 (played_times rest)
played part state rest known =
    plain_times (items_of_stretch part state) rest (plain_stretch part state)
    ∙ ap (λ n. with_more n (played_times rest)) (stretch_time part state known)

-- A state that is kept after an overlay mark, or another one.
chosen : (P : StretchState → Type 0) (layered : Bool) (state other : StretchState) → P state → P other
    → P (if layered then state else other)
chosen P true state other p q = p
chosen P false state other p q = q

-- One more note, chord or rest.
begin_known : (begin : Option StretchBegin) (here : StretchBegin) → IfSome begin IsBegin → IsBegin here → IsBegin (begin_or begin here)
begin_known None here known is = is
begin_known (Some begin) here known is = known

timed_in_step : (state : StretchState) (length : Grains) → InStep state → InStep (with_time state length)
timed_in_step state length known = record {
  meter = known.meter;
  pattern = known.pattern;
  begin = begin_known state.begin (begun state.setting) known.begin (record { meter = known.meter; pattern = known.pattern });
  unbegun = tt;
}

timed : (part : Part) (state : StretchState) (length : Grains) (rest : List VoiceStep) (times : List ℕ) (layered zero : Bool)
    → layered ≡ not zero
    → played_times (items_from part (if layered then state else with_time state length) rest)
    ≡ with_more (if layered then state else with_time state length).length.0 times
    → played_times (items_from part (if layered then state else with_time state length) rest)
    ≡ with_more state.length.0 (if zero then with_more length.0 times else times)
timed part state length rest times true true is e = absurd (let n : ⊥ = grind arith in n)
timed part state length rest times true false is e = e
timed part state length rest times false true is e = e ∙ sym (with_more_twice state.length.0 length.0 times)
timed part state length rest times false false is e = absurd (let n : ⊥ = grind arith in n)

-- A state at which a step has no effect on the time.
abbrev Goes : Part → ℕ → ℕ → List VoiceStep → StretchState → Type 0
Goes part at long rest state = played_times (items_from part state rest) ≡ with_more long (written_times 0 at (map role_of rest))

-- The times from a place on, at which `at` is the layer.
keeps : (part : Part) (at : ℕ) (state : StretchState) (voice : List VoiceStep) → state.layered ≡ not (at == 0) → InStep state
    → All IsVoiceStep voice → played_times (items_from part state voice) ≡ with_more state.length.0 (written_times 0 at (map role_of voice))
keeps part at state [] is known each =
    let same : items_of_stretch part state ++ [] ≡ items_of_stretch part state = append-nil (items_of_stretch part state) in
    rw same at (played part state [] known)
keeps part at state (steps.Time length ∷ rest) is known each =
    timed part state length rest (written_times 0 at (map role_of rest)) state.layered (at == 0) is
    (keeps part at (state_after state (steps.Time length)) rest
    (chosen (λ one. one.layered ≡ not (at == 0)) state.layered state (with_time state length) is is)
    (chosen InStep state.layered state (with_time state length) known (timed_in_step state length known))
    (All-tail IsVoiceStep (steps.Time length) rest each))
keeps part at state (steps.Bar line ∷ rest) is known each =
    let next = state_after state (steps.Bar line) in
    let after = items_from part next rest in
    let later = keeps part 0 next rest refl (record { meter = known.meter; pattern = known.pattern; begin = tt; unbegun = refl })
    (All-tail IsVoiceStep (steps.Bar line) rest each) in
    let times = later ∙ with_nothing (written_times 0 0 (map role_of rest)) in
    rw append_assoc (played part state (made_item (items.Bar line) ∷ after) known
    ∙ ap (λ those. with_more state.length.0 (0 ∷ those)) times)
keeps part at state (steps.Ending passes ∷ rest) is known each =
    let next = state_after state (steps.Ending passes) in
    let after = items_from part next rest in
    let later = keeps part 0 next rest refl (record { meter = known.meter; pattern = known.pattern; begin = tt; unbegun = refl })
    (All-tail IsVoiceStep (steps.Ending passes) rest each) in
    let times = later ∙ with_nothing (written_times 0 0 (map role_of rest)) in
    rw append_assoc (played part state (made_item (items.Ending passes) ∷ after) known
    ∙ ap (λ those. with_more state.length.0 (0 ∷ those)) times)
keeps part at state (steps.Overlay ∷ rest) is known each =
    keeps part (at + 1) (with_step state steps.Overlay) rest
    (let t : (at + 1 == 0) ≡ false = grind (arith, nat_tests) in rw t refl)
    (record { meter = known.meter; pattern = known.pattern; begin = known.begin; unbegun = known.unbegun })
    (All-tail IsVoiceStep steps.Overlay rest each)
keeps part at state (steps.Meter meter ∷ rest) is known each =
    keeps part at (with_step state (steps.Meter meter)) rest is
    (record { meter = All-head IsVoiceStep (steps.Meter meter) rest each; pattern = tt; begin = known.begin; unbegun = known.unbegun })
    (All-tail IsVoiceStep (steps.Meter meter) rest each)
keeps part at state (steps.Program ∷ rest) is known each =
    keeps part at state rest is known (All-tail IsVoiceStep steps.Program rest each)
keeps part at state (steps.Transpose by ∷ rest) is known each =
    keeps part at (with_step state (steps.Transpose by)) rest is
    (record { meter = known.meter; pattern = known.pattern; begin = known.begin; unbegun = known.unbegun })
    (All-tail IsVoiceStep (steps.Transpose by) rest each)
keeps part at state (steps.Pattern pattern ∷ rest) is known each =
    let head = All-head IsVoiceStep (steps.Pattern pattern) rest each in
    let tail = All-tail IsVoiceStep (steps.Pattern pattern) rest each in
    let other : StretchState = record state { setting = record state.setting { pattern = Some pattern } } in
    chosen (Goes part at state.length.0 rest) state.layered state other
    (keeps part at state rest is known tail)
    (keeps part at other rest is (record { meter = known.meter; pattern = head; begin = known.begin; unbegun = known.unbegun }) tail)
keeps part at state (steps.ChordName name transpose place ∷ rest) is known each =
    let tail = All-tail IsVoiceStep (steps.ChordName name transpose place) rest each in
    chosen (Goes part at state.length.0 rest) state.layered state _
    (keeps part at state rest is known tail)
    (keeps part at _ rest is (record { meter = known.meter; pattern = known.pattern; begin = known.begin; unbegun = known.unbegun }) tail)
keeps part at state (steps.Harmony mark ∷ rest) is known each =
    let tail = All-tail IsVoiceStep (steps.Harmony mark) rest each in
    chosen (Goes part at state.length.0 rest) state.layered state _
    (keeps part at state rest is known tail)
    (keeps part at _ rest is (record { meter = known.meter; pattern = known.pattern; begin = known.begin; unbegun = known.unbegun }) tail)
keeps part at state (steps.Other ∷ rest) is known each =
    keeps part at state rest is known (All-tail IsVoiceStep steps.Other rest each)

pub keeps_step : AccompanimentKeepsStep
keeps_step part setting voice range each =
    keeps part 0 (section_opening setting) voice refl (record { meter = range.meter; pattern = range.pattern; begin = tt; unbegun = refl }) each
    ∙ with_nothing (written_times 0 0 (map role_of voice))
