-- The greatest number of an ending is the place of its highest bit.
use Rattle.std.proofs.Common.{◌≡◌, ℕ, zero, suc, ◌+◌, ◌-◌, ◌*◌, ◌/◌, ◌%◌, ◌^◌, ◌<◌, ◌≤◌, Bool, true, false, leb, eqb, ◌&&◌, ◌⊎◌, inl, inr, refl, sym, ap, ◌∙◌, ⊎_elim, arith}
use Rattle.std.proofs.lemmas.Bool.{cases_lt, cond-true, cond-false}
use Rattle.std.proofs.lemmas.Bool.Decides.{nat_tests}
use Rattle.std.proofs.lemmas.Nat.{leading_length, le-div, div_below}
use Rattle.std.proofs.lemmas.Nat.Bits.{bit_at_above}
use Rattle.std.specs.Int.{bit_at}
use lib.Count.{count_leading_zeros}
use Rattle.abc_repeat.specs.Mark.{has_number, greatest_number_to, greatest_number}

and_both : (a b : Bool) → a ≡ true → b ≡ true → (a && b) ≡ true
and_both true b e f = f
and_both false b e f = cc

and_second : (a b : Bool) → b ≡ false → (a && b) ≡ false
and_second true b e = e
and_second false b e = refl

-- no bit at or above a power that the number is below
names_above : (a m i : ℕ) → a < 2 ^ m → m ≤ i → has_number a (suc i) ≡ false
unfolding has_number
names_above a m i h k =
    let e : suc i - 1 ≡ i = omega arith in
    let none : bit_at a (suc i - 1) ≡ 0 = ap (bit_at a) e ∙ bit_at_above a m i h k in
    and_second (leb (suc i) 32) _ (ap (λ b. eqb b 1) none)

quotient_one : (a p : ℕ) → 0 < p → p ≤ a → a < 2 * p → a / p ≡ 1
quotient_one a p some h k =
    let low : 1 ≤ a / p = le-div 1 a p some (omega arith) in
    let high : a / p < 2 = div_below a p 2 some k in
    omega arith

-- the highest bit
names_top : (a j : ℕ) → 2 ^ j ≤ a → a < 2 * 2 ^ j → suc j ≤ 32 → 0 < 2 ^ j → has_number a (suc j) ≡ true
unfolding has_number
names_top a j h k few some =
    let e : suc j - 1 ≡ j = omega arith in
    let one : bit_at a (suc j - 1) ≡ 1 = ap (bit_at a) e ∙ ap (λ q. q % 2) (quotient_one a (2 ^ j) some h k) in
    and_both (leb (suc j) 32) _ (grind (arith, nat_tests)) (ap (λ b. eqb b 1) one)

greatest_down : (a m n : ℕ) → m ≤ n → a < 2 ^ m → (m ≡ 0) ⊎ (has_number a m ≡ true) → greatest_number_to a n ≡ m
unfolding greatest_number_to
greatest_down a m zero le h top = omega arith
greatest_down a m (suc n) le h top = ⊎_elim
    (λ less.
    let e : m ≡ suc n = omega arith in
    ⊎_elim
    (λ none. absurd (omega arith))
    (λ named. cond-true (has_number a (suc n)) _ _ (ap (has_number a) (sym e) ∙ named) ∙ sym e)
    top)
    (λ more. cond-false (has_number a (suc n)) _ _ (names_above a m n h more) ∙ greatest_down a m n more h top)
    (cases_lt n m)

top_named : (a m : ℕ) → m ≤ 32 → a < 2 ^ m → 2 ^ m ≤ 2 * a + 1 → (m ≡ 0) ⊎ (has_number a m ≡ true)
top_named a zero few h k = inl refl
top_named a (suc j) few h k =
    let double : 2 ^ suc j ≡ 2 * 2 ^ j = grind arith in
    let some : 0 < 2 ^ j = omega arith in
    inr (names_top a j (omega arith) (omega arith) few some)

pub greatest_is : (a : ℕ) → a < 2 ^ 32 → 32 - count_leading_zeros 32 a ≡ greatest_number a
unfolding greatest_number
greatest_is a h =
    let found = leading_length 32 a h in
    let few : found.0 ≤ 32 = omega (arith, found.1) in
    let e : 32 - count_leading_zeros 32 a ≡ found.0 = omega (arith, found.1) in
    e ∙ sym (greatest_down a found.0 32 few found.2 (top_named a found.0 few found.2 found.3))
