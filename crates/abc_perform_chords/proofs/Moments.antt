-- The moments of a pattern's steps.
use Rattle.std.proofs.Common.{◌≡◌, ℕ, ◌+◌, ◌*◌, ◌^◌, ◌<◌, ◌≤◌, List, [], ◌∷◌, refl, arith, ◌∙◌, ap}
use Rattle.std.proofs.Math.Nat.{mul-le-mul, mul-div_left}
use Rattle.std.proofs.lemmas.List.Sums.{sum_by-cons}
use Rattle.abc_time.specs.Grains.{grains_of_a_whole_note, grains_of_the_longest_length}
use Rattle.abc_marks.specs.declared.directive.Step.{Step}
use Rattle.abc_perform_chords.specs.PatternSteps.{FillsBar, IsChain, moment_of, spans_from, total_count}

-- A bar times counts fits a machine number.
pub counted_fits : (bar counted : ℕ) → bar ≤ grains_of_the_longest_length → counted ≤ 6336 → bar * counted < 2 ^ 64
unfolding grains_of_the_longest_length grains_of_a_whole_note
counted_fits bar counted short few =
    let most : bar * counted ≤ (1024 * 929901772800) * 6336 = mul-le-mul short few in omega (arith, most)

-- The steps after some counts follow one another up to the moment that all counts precede.
chain_from : (bar total counted : ℕ) (pattern : List Step)
    → IsChain (moment_of bar total counted) (moment_of bar total (counted + total_count pattern)) (spans_from bar total counted pattern)
chain_from bar total counted [] = ap (λ n. moment_of bar total n) (let e : counted ≡ counted + 0 = omega arith in e)
chain_from bar total counted (step ∷ pattern) =
    let rest = chain_from bar total (counted + step.count) pattern in
    let first = sum_by-cons (λ (one : Step). one.count) step pattern in
    let same : counted + step.count + total_count pattern ≡ counted + total_count (step ∷ pattern) = omega (arith, first) in
    (refl, (rw same at rest))

-- The steps of a pattern with a count fill the bar.
pub fills_bar : (bar : ℕ) (pattern : List Step) → 1 ≤ total_count pattern
    → FillsBar bar (spans_from bar (total_count pattern) 0 pattern)
fills_bar bar pattern some =
    let total = total_count pattern in
    let chain = chain_from bar total 0 pattern in
    let begin : moment_of bar total 0 ≡ 0 = grind arith in
    let end : moment_of bar total (0 + total) ≡ bar = (let e : 0 + total ≡ total = omega arith in ap (λ n. moment_of bar total n) e ∙ mul-div_left bar some) in
    record { chain = rw (end, begin) at chain }
