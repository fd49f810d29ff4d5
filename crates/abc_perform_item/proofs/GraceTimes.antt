-- What the grace notes of a group want fits a machine number.
use Rattle.std.proofs.Common.{◌≡◌, ◌*◌, ◌^◌, ◌<◌, ◌≤◌, List, [], ◌∷◌, length, All, arith, refl, sum_by}
use Rattle.std.proofs.lemmas.List.Sums.{sum_by-cons, sum_by-le}
use Rattle.std.proofs.Math.Nat.{le_refl, mul-le-mul}
use Rattle.abc_time.specs.declared.grains.Grains.{Grains}
use Rattle.abc_time.specs.Grains.{grains_of_a_whole_note, grains_of_the_longest_length}
use Rattle.abc_perform_note.specs.Grace.{wanted_time}
use Rattle.abc_perform_item.specs.declared.graces.Grace.{Grace}
use Rattle.abc_perform_item.specs.Graces.{AreGraces}
use Rattle.abc_perform_item.specs.GraceItems.{wants_of}

-- The sum over a mapped list.
wanted-map : (graces : List Grace) → wanted_time (wants_of graces) ≡ sum_by (λ (grace : Grace). grace.note.wanted.0) graces
wanted-map [] = refl
wanted-map (grace ∷ graces) =
    let rest = wanted-map graces in
    let first = sum_by-cons (λ (want : Grains). want.0) grace.note.wanted (wants_of graces) in
    let second = sum_by-cons (λ (one : Grace). one.note.wanted.0) grace graces in
    omega (arith, rest, first, second)

-- At most sixteen grace notes want at most as many longest lengths.
pub wants_fit : (graces : List Grace) → AreGraces graces → wanted_time (wants_of graces) < 2 ^ 64
unfolding grains_of_the_longest_length grains_of_a_whole_note
wants_fit graces some =
    let each : All (λ (grace : Grace). grace.note.wanted.0 ≤ grains_of_the_longest_length) graces = (λ k d within. (some.each k d within).note.wanted) in
    let bound = sum_by-le (λ (grace : Grace). grace.note.wanted.0) grains_of_the_longest_length graces each in
    let most : length graces * grains_of_the_longest_length ≤ 16 * grains_of_the_longest_length = mul-le-mul some.few (le_refl grains_of_the_longest_length) in
    let same = wanted-map graces in
    omega (arith, bound, most, same)
