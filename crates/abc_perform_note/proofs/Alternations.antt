-- The parts of a trill.
use Rattle.std.proofs.Common.{List, ◌≡◌, ℕ, zero, suc, ◌+◌, ◌*◌, ◌/◌, ◌≤◌, [], ◌∷◌, ◌++◌, All, refl, ap, arith, le_trans}
use Rattle.std.proofs.Math.Nat.{mul-div-le}
use Rattle.std.proofs.lemmas.List.Sums.{sum_by-cons}
use Rattle.abc_perform_note.specs.declared.part.Part.{Part}
use Rattle.abc_perform_note.specs.Part.{part, duration, IsPartOf}
use Rattle.abc_perform_note.specs.Trills.{alternations}

-- One more time at the end is one more time.
pub alternations-next : (count key up length : ℕ)
    → (alternations count key up length ++ part key length ∷ []) ++ part up length ∷ [] ≡ alternations (suc count) key up length
alternations-next zero key up length = refl
alternations-next (suc count) key up length =
    ap (λ rest. part key length ∷ part up length ∷ rest) (alternations-next count key up length)

-- All parts take the same time.
pub duration-alternations : (count key up length : ℕ) → duration (alternations count key up length) ≡ 2 * count * length
duration-alternations zero key up length = omega arith
duration-alternations (suc count) key up length =
    let rest = duration-alternations count key up length in
    let first = sum_by-cons (λ (one : Part). one.length.0) (part key length) (part up length ∷ alternations count key up length) in
    let second = sum_by-cons (λ (one : Part). one.length.0) (part up length) (alternations count key up length) in
    omega (arith, rest, first, second)

-- The parts before the last one fit into the note.
pub alternations_within : (pairs key up length : ℕ)
    → duration (alternations pairs key up (length / (2 * pairs + 1))) ≤ length
alternations_within pairs key up length =
    let same = duration-alternations pairs key up (length / (2 * pairs + 1)) in
    let within = mul-div-le length (2 * pairs + 1) in
    let split : (2 * pairs + 1) * (length / (2 * pairs + 1)) ≡ 2 * pairs * (length / (2 * pairs + 1)) + length / (2 * pairs + 1) = grind arith in
    omega (arith, same, within, split)

-- A part of a shorter length is one of a longer one.
pub parts_of_longer : (short long : ℕ) (parts : List Part) → short ≤ long → All (IsPartOf short) parts → All (IsPartOf long) parts
parts_of_longer short long parts longer each =
    λ k d within. let one = each k d within in record { key = one.key; within = le_trans one.within longer }
