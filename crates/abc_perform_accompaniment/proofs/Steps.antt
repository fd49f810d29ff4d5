-- The steps along a stretch.
use Rattle.std.proofs.Common.{◌≡◌, ℕ, zero, suc, ◌+◌, ◌-◌, ◌*◌, ◌<◌, ◌≤◌, nat_lt, if◌then◌else◌, Bool, true, false, List, [], ◌∷◌, All, refl, arith, ltb-true, le_trans}
use Rattle.std.proofs.Math.Nat.{div-le_of_le-mul, mul-le-mul_left}
use Rattle.std.proofs.lemmas.List.Elements.{All-append, All-cons, All-head, All-nil, All-tail, All-weaker}
use Rattle.std.proofs.lemmas.List.Sums.{sum_by-cons}
use Rattle.abc_time.specs.Grains.{grains_of_the_longest_length}
use Rattle.abc_marks.specs.declared.directive.Step.{Step}
use Rattle.abc_perform_chords.specs.declared.pattern_steps.StepSpan.{StepSpan}
use Rattle.abc_perform_chords.specs.PatternSteps.{moment_of, spans_from, total_count}
use Rattle.abc_perform_note.specs.Length.{IsLengthOfANote}
use Rattle.abc_perform_patterns.specs.Stretch.{IsSpanIn, bars_in, clipped, clipped_all, ending, ending_all, repeated_steps, some_step, stretch_steps}
use Rattle.abc_perform_harmony.specs.StretchItems.{IsStep}

-- A span that ends by a moment, and so does its beginning.
pub record EndsBy (most : ℕ) (span : StepSpan) : Type 0 where
  pub from : span.from.0 ≤ most
  pub to : span.to.0 ≤ most

-- A step that ends by a moment, and no earlier than it begins.
pub record IsWithin (most : ℕ) (step : StepSpan) : Type 0 where
  pub order : step.from.0 ≤ step.to.0
  pub to : step.to.0 ≤ most

-- No count of a pattern is after the end of its bar.
moment_within : (bar total counted : ℕ) → counted ≤ total → moment_of bar total counted ≤ bar
moment_within bar total counted few =
    let product : bar * counted ≤ total * bar = grind (arith, mul-le-mul_left) in
    div-le_of_le-mul total product

-- The steps of a pattern end by the end of its bar.
pub spans_end : (bar total counted : ℕ) (pattern : List Step) → counted + total_count pattern ≤ total
    → All (EndsBy bar) (spans_from bar total counted pattern)
spans_end bar total counted [] few = All-nil (EndsBy bar)
spans_end bar total counted (step ∷ pattern) few =
    let sum = sum_by-cons (λ (one : Step). one.count) step pattern in
    let rest : counted + step.count + total_count pattern ≤ total = omega (arith, few, sum) in
    let span : StepSpan = record {
      sound = step.sound;
      from = record { 0 = moment_of bar total counted };
      to = record { 0 = moment_of bar total (counted + step.count) };
    } in
    All-cons (EndsBy bar) span (spans_from bar total (counted + step.count) pattern)
    (record {
      from = moment_within bar total counted (omega (arith, few));
      to = moment_within bar total (counted + step.count) (omega (arith, rest));
    })
    (spans_end bar total (counted + step.count) pattern rest)

-- A step that is left out if it takes no time.
one_within : (most : ℕ) (takes : Bool) (step : StepSpan) → (takes ≡ true → step.from.0 < step.to.0) → step.to.0 ≤ most
    → All (IsWithin most) (if takes then step ∷ [] else [])
one_within most true step some early =
    let order = some refl in
    All-cons (IsWithin most) step [] (record { order = omega (arith, order); to = early }) (All-nil (IsWithin most))
one_within most false step some early = All-nil (IsWithin most)

some_within : (most : ℕ) (step : StepSpan) → step.to.0 ≤ most → All (IsWithin most) (some_step step)
some_within most step early = one_within most (nat_lt step.from.0 step.to.0) step (ltb-true step.from.0 step.to.0) early

-- The steps of a bar as far as a stretch goes.
clipped_within : (most begin length : ℕ) (spans : List StepSpan) → length ≤ most → All (IsWithin most) (clipped_all begin length spans)
clipped_within most begin length [] short = All-nil (IsWithin most)
clipped_within most begin length (span ∷ spans) short =
    All-append (IsWithin most) (some_step (clipped begin length span)) (clipped_all begin length spans)
    (some_within most (clipped begin length span) (omega (arith, short)))
    (clipped_within most begin length spans short)

-- The steps of some bars.
repeated_within : (most bars begin bar length : ℕ) (spans : List StepSpan) → length ≤ most
    → All (IsWithin most) (repeated_steps bars begin bar length spans)
repeated_within most zero begin bar length spans short = All-nil (IsWithin most)
repeated_within most (suc bars) begin bar length spans short =
    All-append (IsWithin most) (clipped_all begin length spans) (repeated_steps bars (begin + bar) bar length spans)
    (clipped_within most begin length spans short)
    (repeated_within most bars (begin + bar) bar length spans short)

-- The steps of a bar that lacks its first part.
ending_within : (most lack : ℕ) (spans : List StepSpan) → All (EndsBy most) spans → All (IsWithin most) (ending_all lack spans)
ending_within most lack [] early = All-nil (IsWithin most)
ending_within most lack (span ∷ spans) early =
    let first = All-head (EndsBy most) span spans early in
    let to = first.to in
    All-append (IsWithin most) (some_step (ending lack span)) (ending_all lack spans)
    (some_within most (ending lack span) (omega (arith, to)))
    (ending_within most lack spans (All-tail (EndsBy most) span spans early))

-- The steps along a stretch.
pub steps_within : (most : ℕ) (pickup : Bool) (bar length : ℕ) (spans : List StepSpan) → length ≤ most → All (EndsBy most) spans
    → All (IsWithin most) (stretch_steps pickup bar length spans)
steps_within most true bar length spans short early = ending_within most (bar - length) spans early
steps_within most false bar length spans short early = repeated_within most (bars_in length bar) 0 bar length spans short

-- The steps of a pattern in a bar are in it.
pub spans_are_in : (bar : ℕ) (pattern : List Step) → IsLengthOfANote bar
    → All IsSpanIn (spans_from bar (total_count pattern) 0 pattern)
spans_are_in bar pattern short =
    let spans = spans_from bar (total_count pattern) 0 pattern in
    All-weaker (EndsBy bar) IsSpanIn
    (λ span early. record { from = le_trans early.from short; to = le_trans early.to short })
    spans (spans_end bar (total_count pattern) 0 pattern (omega arith))

-- The steps along a stretch are steps that an accompaniment may have.
pub steps_are_steps : (pickup : Bool) (bar length : ℕ) (pattern : List Step) → IsLengthOfANote bar → IsLengthOfANote length
    → All IsStep (stretch_steps pickup bar length (spans_from bar (total_count pattern) 0 pattern))
steps_are_steps pickup bar length pattern short long =
    let spans = spans_from bar (total_count pattern) 0 pattern in
    let early = All-weaker (EndsBy bar) (EndsBy grains_of_the_longest_length)
    (λ span ends. record { from = le_trans ends.from short; to = le_trans ends.to short })
    spans (spans_end bar (total_count pattern) 0 pattern (omega arith)) in
    All-weaker (IsWithin grains_of_the_longest_length) IsStep (λ step within. record { order = within.order; to = within.to })
    (stretch_steps pickup bar length spans)
    (steps_within grains_of_the_longest_length pickup bar length spans long early)
