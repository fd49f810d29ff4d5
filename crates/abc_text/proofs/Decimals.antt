-- The size of the number that digits write.
use Rattle.std.proofs.Common.{◌≡◌, ℕ, zero, suc, ◌+◌, ◌-◌, ◌*◌, ◌<◌, ◌≤◌, true, List, [], ◌∷◌, length, get_or, take, subst, arith, length-take-le}
use Rattle.std.specs.List.{AllPass, fold}
use Rattle.std.proofs.lemmas.List.Sums.{fold_more}
use Rattle.std.proofs.lemmas.List.Elements.{All-head, All-tail, All-take}
use Rattle.std.proofs.lemmas.Bool.{and_parts, leb-true}
use Rattle.std.proofs.Math.Nat.{mul-le-mul_left}
use Rattle.abc_text.specs.Digit.{is_digit, decimal}

-- the numbers with at most k digits are below this
tens : ℕ → ℕ
tens zero = 1
tens (suc k) = 10 * tens k

pub digit_range : (d : ℕ) → is_digit d ≡ true → (48 ≤ d) × (d ≤ 57)
digit_range d h = let parts = and_parts _ _ h in (leb-true 48 d parts.0, leb-true d 57 parts.1)

value : ℕ → List ℕ → ℕ
value n ds = fold (λ n d. n * 10 + (d - 48)) n ds

value-lt : (n : ℕ) (ds : List ℕ) → AllPass is_digit ds → value n ds < (n + 1) * tens (length ds)
unfolding value tens
value-lt n [] h = omega arith
value-lt n (d ∷ ds) h =
    let range = digit_range d (All-head (λ y. is_digit y ≡ true) d ds h) in
    let below : d - 48 ≤ 9 = omega arith in
    let rest = value-lt (n * 10 + (d - 48)) ds (All-tail (λ y. is_digit y ≡ true) d ds h) in
    let scaled = mul-le-mul_left (tens (length ds)) below in
    omega (arith, rest, scaled)

tens-le : (i j : ℕ) → i ≤ j → tens i ≤ tens j
unfolding tens
tens-le zero zero h = omega arith
tens-le zero (suc j) h = let below = tens-le zero j (omega arith) in omega arith
tens-le (suc i) zero h = absurd (omega arith)
tens-le (suc i) (suc j) h = let below = tens-le i j (omega arith) in omega arith

-- the step of the loop, and its bound
pub decimal_more : (ds : List ℕ) (i : ℕ) → i < length ds → decimal (take (i + 1) ds) ≡ decimal (take i ds) * 10 + (get_or ds i 0 - 48)
decimal_more ds i h = fold_more (λ n d. n * 10 + (d - 48)) 0 ds i 0 h

pub decimal-lt : (ds : List ℕ) → AllPass is_digit ds → length ds ≤ 9 → decimal ds < 1000000000
unfolding value tens
decimal-lt ds h short = let below = value-lt 0 ds h in let wide = tens-le (length ds) 9 short in omega (arith, below, wide)

pub step-lt : (ds : List ℕ) (i : ℕ) → AllPass is_digit ds → length ds ≤ 9 → i < length ds → decimal (take i ds) * 10 + (get_or ds i 0 - 48) < 1000000000
step-lt ds i h short inside =
    let below = decimal-lt (take (i + 1) ds) (All-take (λ y. is_digit y ≡ true) (i + 1) ds h) (omega (arith, length-take-le (i + 1) ds (omega arith))) in
    subst (λ n. n < 1000000000) (decimal_more ds i inside) below
