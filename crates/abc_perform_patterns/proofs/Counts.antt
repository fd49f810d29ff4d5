-- The counts of the patterns that meters have.
use Rattle.std.proofs.Common.{◌≡◌, ℕ, zero, suc, ◌+◌, ◌-◌, ◌*◌, ◌/◌, ◌≤◌, if◌then◌else◌, Bool, true, false, List, [], ◌∷◌, ◌++◌, refl, arith}
use Rattle.std.proofs.Math.Nat.{div-mul-le_self}
use Rattle.std.proofs.lemmas.Bool.Decides.{nat_tests}
use Rattle.std.proofs.lemmas.List.Sums.{sum_by-append, sum_by-cons}
use Rattle.std.proofs.lemmas.Nat.{le-div}
use Rattle.abc_fields.specs.declared.meter.Meter.TheVariants.{Free, Of}
use Rattle.abc_marks.specs.declared.directive.Step.{Step}
use Rattle.abc_marks.specs.declared.directive.StepSound.TheVariants as sounds
use Rattle.abc_perform_chords.specs.PatternSteps.{total_count}
use Rattle.abc_perform_patterns.specs.MeterPattern.{compound_pattern, has_four, is_compound, plain_pattern, repeated, step_of}
use Rattle.abc_perform_patterns.specs.KeepStep.{DefaultPatternsFit}

-- Steps some number of times have as many times their counts.
repeated_count : (times : ℕ) (steps : List Step) → total_count (repeated times steps) ≡ times * total_count steps
repeated_count zero steps = let e : 0 ≡ 0 * total_count steps = grind arith in e
repeated_count (suc times) steps =
    let both = sum_by-append (λ (step : Step). step.count) steps (repeated times steps) in
    let rest = repeated_count times steps in
    let split : suc times * total_count steps ≡ total_count steps + times * total_count steps = grind arith in
    omega (arith, both, rest, split)

-- A bass and chords have two counts each.
plain_count : (chords : ℕ) → total_count (plain_pattern chords) ≡ 2 + chords * 2
plain_count chords =
    let pair = step_of sounds.Chord ∷ step_of sounds.Rest ∷ [] in
    let rest : total_count (repeated chords pair) ≡ chords * 2 = repeated_count chords pair in
    let first = sum_by-cons (λ (step : Step). step.count) (step_of sounds.Bass) (step_of sounds.Rest ∷ repeated chords pair) in
    let second = sum_by-cons (λ (step : Step). step.count) (step_of sounds.Rest) (repeated chords pair) in
    omega (arith, first, second, rest)

-- Each beat of a compound meter has three counts.
compound_count : (beats : ℕ) → total_count (compound_pattern beats) ≡ beats * 3
compound_count beats = repeated_count beats (step_of sounds.Bass ∷ step_of sounds.Rest ∷ step_of sounds.Chord ∷ [])

-- The counts of a pattern, by what its meter is.
counts : (four compound : Bool) (num : ℕ) → 1 ≤ num → num ≤ 255 → (compound ≡ true → 3 ≤ num)
    → (1 ≤ total_count (if four then plain_pattern 1 ++ plain_pattern 1 else (if compound then compound_pattern (num / 3) else plain_pattern (num - 1))))
    × (total_count (if four then plain_pattern 1 ++ plain_pattern 1 else (if compound then compound_pattern (num / 3) else plain_pattern (num - 1))) ≤ 510)
counts true compound num some few three = (omega arith, omega arith)
counts false true num some few three =
    let exact = compound_count (num / 3) in
    let beats = le-div 1 num 3 (omega arith) (omega (arith, three refl)) in
    let most = div-mul-le_self num 3 in
    (omega (arith, exact, beats), omega (arith, exact, most))
counts false false num some few three = let exact = plain_count (num - 1) in (omega (arith, exact), omega (arith, exact))

pub defaults_fit : DefaultPatternsFit
defaults_fit Free range = (omega arith, omega arith)
defaults_fit (Of num den) range =
    counts (has_four num den) (is_compound num den) num range.num_least range.num_most (λ t. (let h : 3 ≤ num = grind (arith, nat_tests) in h))
