-- Bars, and the counts of patterns.
use Rattle.std.proofs.Common.{ℕ, ◌*◌, ◌≤◌, List, [], ◌∷◌, length, All, arith}
use Rattle.std.proofs.Math.Nat.{div-le_self}
use Rattle.std.proofs.lemmas.Nat.{le-div}
use Rattle.std.proofs.lemmas.List.Elements.{All-head, All-tail, All-weaker}
use Rattle.std.proofs.lemmas.List.Sums.{sum_by-cons, sum_by-le}
use Rattle.abc_time.specs.Grains.{grains_of_a_whole_note, grains_of_the_longest_length}
use Rattle.abc_fields.specs.Meter.{IsMeterInRange}
use Rattle.abc_fields.specs.declared.meter.Meter.{Meter}
use Rattle.abc_fields.specs.declared.meter.Meter.TheVariants.{Free, Of}
use Rattle.abc_marks.specs.Directive.{IsPattern, IsStep}
use Rattle.abc_marks.specs.declared.directive.Step.{Step}
use Rattle.abc_perform_chords.specs.PatternSteps.{total_count}
use Rattle.abc_perform_accompaniment.specs.StretchItems.{bar_of}

-- A bar of each meter has some length.
pub bar_is_some : (meter : Meter) (long : ℕ) → IsMeterInRange meter → 1 ≤ long → 1 ≤ bar_of meter long
unfolding grains_of_a_whole_note
bar_is_some Free long range some = some
bar_is_some (Of num den) long range some =
    let least = range.num_least in
    let most = range.den_most in
    le-div 1 (num * 929901772800) den range.den_least (omega (arith, least, most))

-- A bar is no longer than a note may be.
pub bar_is_short : (meter : Meter) (long : ℕ) → IsMeterInRange meter → long ≤ grains_of_the_longest_length
    → bar_of meter long ≤ grains_of_the_longest_length
unfolding grains_of_a_whole_note grains_of_the_longest_length
bar_is_short Free long range short = short
bar_is_short (Of num den) long range short =
    let most = range.num_most in
    let parts = div-le_self (num * 929901772800) den in
    omega (arith, most, parts)

-- A pattern has at least as many counts as steps.
counts_least : (pattern : List Step) → All IsStep pattern → length pattern ≤ total_count pattern
counts_least [] each = omega arith
counts_least (step ∷ pattern) each =
    let first = All-head IsStep step pattern each in
    let some = first.some in
    let rest = counts_least pattern (All-tail IsStep step pattern each) in
    let sum = sum_by-cons (λ (one : Step). one.count) step pattern in
    omega (arith, some, rest, sum)

-- A pattern has 1 to 6,336 counts.
pub pattern_counts : (pattern : List Step) → IsPattern pattern → (1 ≤ total_count pattern) × (total_count pattern ≤ 6336)
pattern_counts pattern known =
    let some = known.some in
    let few = known.few in
    let least = counts_least pattern known.each in
    let most = sum_by-le (λ (one : Step). one.count) 99 pattern (All-weaker IsStep (λ one. one.count ≤ 99) (λ one is. is.few) pattern known.each) in
    (omega (arith, some, least), omega (arith, few, most))
