-- What grace notes want and take together.
use Rattle.std.proofs.Common.{◌≡◌, ℕ, ◌+◌, ◌*◌, ◌/◌, ◌<◌, List, [], ◌∷◌, length, arith}
use Rattle.std.proofs.lemmas.List.Sums.{sum_by-cons}
use Rattle.std.proofs.Math.Nat.{mul-div-le}
use Rattle.abc_time.specs.declared.grains.Grains.{Grains}
use Rattle.abc_perform_note.specs.declared.grace.GraceShare.TheVariants.{Equal}
use Rattle.abc_perform_note.specs.Grace.{wanted_time, taken_time, IsShareOfHalf}

-- Equal shares take as many times one.
pub taken_time-equal : (share : Grains) (wants : List Grains) → taken_time (Equal share) wants ≡ length wants * share.0
taken_time-equal share [] = omega arith
taken_time-equal share (want ∷ wants) =
    let rest = taken_time-equal share wants in
    let first = sum_by-cons (λ (_ : Grains). share.0) want wants in
    omega (arith, rest, first)

-- Equal shares of a half.
pub equal_shares : (wants : List Grains) (half : ℕ) → half < wanted_time wants
    → IsShareOfHalf wants half (Equal (record { 0 = half / length wants }))
equal_shares [] half more = absurd (omega arith)
equal_shares (want ∷ wants) half more =
    let n = length (want ∷ wants) in
    let same = taken_time-equal (record { 0 = half / n }) (want ∷ wants) in
    let some : 0 < n = omega arith in
    let rest : half < n * (half / n) + n = omega arith in
    record {
      together = rw same (mul-div-le half n);
      wanted = λ room. absurd (omega (arith, room));
      most = λ _. omega (arith, same, rest);
    }
