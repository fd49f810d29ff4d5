-- The steps of a pattern fill a stretch.
use Rattle.std.proofs.Common.{◌≡◌, ℕ, zero, suc, ◌+◌, ◌-◌, ◌*◌, ◌/◌, ◌<◌, ◌≤◌, min, nat_lt, if◌then◌else◌, Bool, true, false, List, [], ◌∷◌, ◌++◌, refl, sym, ap, subst, arith, ltb-true}
use Rattle.std.proofs.Math.Nat.{div-mul-le_self, lt-div-mul-add, mul-le-mul_left}
use Rattle.std.proofs.lemmas.Bool.{ltb-false}
use Rattle.std.proofs.lemmas.Nat.{le-div}
use Rattle.abc_marks.specs.declared.directive.Step.{Step}
use Rattle.abc_perform_chords.specs.declared.pattern_steps.StepSpan.{StepSpan}
use Rattle.abc_perform_chords.specs.PatternSteps.{FillsBar, IsChain, moment_of, spans_from, total_count}
use Rattle.abc_perform_chords.proofs.Moments.{fills_bar}
use Rattle.abc_perform_patterns.specs.KeepStep.{StepsFillStretch}
use Rattle.abc_perform_patterns.specs.Stretch.{bars_in, clipped, clipped_all, ending, ending_all, repeated_steps, some_step}

-- No step ends before it begins.
abbrev Forward : List StepSpan → Type 0
Forward [] = Unit {0}
Forward (span ∷ spans) = (span.from.0 ≤ span.to.0) × Forward spans

-- A later count is at no earlier moment.
later : (bar total counted more : ℕ) → 1 ≤ total → moment_of bar total counted ≤ moment_of bar total (counted + more)
later bar total counted more some =
    let within = div-mul-le_self (bar * counted) total in
    let split : bar * (counted + more) ≡ bar * counted + bar * more = grind arith in
    le-div (bar * counted / total) (bar * (counted + more)) total some (omega (arith, within, split))

-- The steps of a pattern do not.
spans_forward : (bar total counted : ℕ) (pattern : List Step) → 1 ≤ total → Forward (spans_from bar total counted pattern)
spans_forward bar total counted [] some = tt
spans_forward bar total counted (step ∷ pattern) some =
    (later bar total counted step.count some, spans_forward bar total (counted + step.count) pattern some)

-- Steps without gaps, and those without gaps after them.
joined : (a b c : ℕ) (xs ys : List StepSpan) → IsChain a b xs → IsChain b c ys → IsChain a c (xs ++ ys)
joined a b c [] ys same chain = subst (λ (n : ℕ). IsChain n c ys) (sym same) chain
joined a b c (x ∷ xs) ys chain more = (chain.0, joined x.to.0 b c xs ys chain.1 more)

-- A step that is left out if it takes no time.
one : (takes : Bool) (a b : ℕ) (step : StepSpan) → (takes ≡ true → (step.from.0 ≡ a) × (step.to.0 ≡ b)) → (takes ≡ false → a ≡ b)
    → IsChain a b (if takes then step ∷ [] else [])
one true a b step some none = some refl
one false a b step some none = none refl

-- The steps of a bar as far as the stretch goes.
clipped_chain : (begin length x y : ℕ) (spans : List StepSpan) → IsChain x y spans → Forward spans
    → IsChain (min (begin + x) length) (min (begin + y) length) (clipped_all begin length spans)
clipped_chain begin length x y [] chain forward = ap (λ n. min (begin + n) length) chain
clipped_chain begin length x y (span ∷ spans) chain forward =
    let from = chain.0 in
    let order = forward.0 in
    joined (min (begin + x) length) (min (begin + span.to.0) length) (min (begin + y) length)
    (some_step (clipped begin length span)) (clipped_all begin length spans)
    (one (nat_lt (begin + span.from.0) (min (begin + span.to.0) length)) (min (begin + x) length) (min (begin + span.to.0) length)
    (clipped begin length span)
    (λ t. let lt = ltb-true (begin + span.from.0) (min (begin + span.to.0) length) t in
    let e : begin + span.from.0 ≡ min (begin + x) length = omega (arith, lt, from, order) in (e, refl))
    (λ f. let ge = ltb-false (begin + span.from.0) (min (begin + span.to.0) length) f in omega (arith, ge, from, order)))
    (clipped_chain begin length span.to.0 y spans chain.1 forward.1)

-- The steps of a bar that lacks its first part.
ending_chain : (lack x y : ℕ) (spans : List StepSpan) → IsChain x y spans → Forward spans
    → IsChain (x - lack) (y - lack) (ending_all lack spans)
ending_chain lack x y [] chain forward = ap (λ n. n - lack) chain
ending_chain lack x y (span ∷ spans) chain forward =
    let from = chain.0 in
    let order = forward.0 in
    joined (x - lack) (span.to.0 - lack) (y - lack) (some_step (ending lack span)) (ending_all lack spans)
    (one (nat_lt (span.from.0 - lack) (span.to.0 - lack)) (x - lack) (span.to.0 - lack) (ending lack span)
    (λ t. (ap (λ n. n - lack) from, refl))
    (λ f. let ge = ltb-false (span.from.0 - lack) (span.to.0 - lack) f in omega (arith, ge, from, order)))
    (ending_chain lack span.to.0 y spans chain.1 forward.1)

-- The steps of some bars.
repeated_chain : (bars begin bar length : ℕ) (spans : List StepSpan) → IsChain 0 bar spans → Forward spans
    → IsChain (min begin length) (min (begin + bars * bar) length) (repeated_steps bars begin bar length spans)
repeated_chain zero begin bar length spans chain forward =
    let e : begin ≡ begin + 0 * bar = grind arith in ap (λ n. min n length) e
repeated_chain (suc bars) begin bar length spans chain forward =
    let first : begin + 0 ≡ begin = omega arith in
    let last : begin + bar + bars * bar ≡ begin + suc bars * bar = grind arith in
    joined (min begin length) (min (begin + bar) length) (min (begin + suc bars * bar) length)
    (clipped_all begin length spans) (repeated_steps bars (begin + bar) bar length spans)
    (rw first at (clipped_chain begin length 0 bar spans chain forward))
    (rw last at (repeated_chain bars (begin + bar) bar length spans chain forward))

-- All bars of a stretch reach its end.
bars_reach : (bar length : ℕ) → 1 ≤ bar → length ≤ bars_in length bar * bar
bars_reach bar length some =
    let past = lt-div-mul-add {a = length + (bar - 1)} {b = bar} some in omega (arith, past, some)

pub steps_fill_stretch : StepsFillStretch
steps_fill_stretch true bar length pattern counts some short =
    let spans = spans_from bar (total_count pattern) 0 pattern in
    let chain = ending_chain (bar - length) 0 bar spans (fills_bar bar pattern counts).chain (spans_forward bar (total_count pattern) 0 pattern counts) in
    let within = short refl in
    let first : 0 - (bar - length) ≡ 0 = omega arith in
    let last : bar - (bar - length) ≡ length = omega (arith, within) in
    rw (first, last) at chain
steps_fill_stretch false bar length pattern counts some short =
    let spans = spans_from bar (total_count pattern) 0 pattern in
    let chain = repeated_chain (bars_in length bar) 0 bar length spans (fills_bar bar pattern counts).chain (spans_forward bar (total_count pattern) 0 pattern counts) in
    let reach = bars_reach bar length some in
    let first : min 0 length ≡ 0 = omega arith in
    let last : min (0 + bars_in length bar * bar) length ≡ length = omega (arith, reach) in
    rw (first, last) at chain
