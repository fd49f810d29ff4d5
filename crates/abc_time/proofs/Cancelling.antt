-- Cancelling numerators by a divisor.
use Rattle.std.proofs.Common.{◌∙◌, ◌≡◌, ℕ, ◌+◌, ◌*◌, ◌/◌, ◌%◌, ◌<◌, ◌≤◌, List, zero, suc, length, get_or, set, drop, arith, ap, sym, subst}
use Rattle.std.proofs.Math.Nat.{mul-one, mul_comm, dvd-mul_right, eq-one_of_dvd-one, div_self, div-mul_cancel, eq_of_mul-eq-mul_right, mul-dvd-mul_right, dvd_of_mul-dvd-mul_left, dvd_of_mod-eq-zero}
use Rattle.std.proofs.lemmas.Nat.Gcd.{dvd_trans}
use Rattle.std.proofs.lemmas.List.{drop-set-lt, drop_all}
use Rattle.std.proofs.lemmas.List.Elements.{All-set, All-get_or}
use Rattle.std.specs.List.{All}
use Rattle.std.specs.Int.{◌∣◌}
use Rattle.abc_time.specs.Gcd.{IsGcdOfMultiples}
use Rattle.abc_time.specs.Product.{product_of}
use Rattle.abc_time.proofs.Products.{product_of-set, product_of-drop}

pub record Divides (g n : ℕ) : Type 0 where
  pub divides : g ∣ n
  pub times : n / g * g ≡ n
  pub positive : 1 ≤ n → (1 ≤ g) × (1 ≤ n / g)

divided : (g n : ℕ) → g ∣ n → Divides g n
divided g n h =
    let e : n / g * g ≡ n = div-mul_cancel g h in
    record { divides = h; times = e; positive = λ p. (pos_l (n / g) g n e p, pos_r (n / g) g n e p) } where
      pos_l : (q g n : ℕ) → q * g ≡ n → 1 ≤ n → 1 ≤ g
      pos_l q zero n e p = absurd (omega arith)
      pos_l q (suc g) n e p = omega arith

      pos_r : (q g n : ℕ) → q * g ≡ n → 1 ≤ n → 1 ≤ q
      pos_r zero g n e p = absurd (omega arith)
      pos_r (suc q) g n e p = omega arith

pub divides_left : (a b g : ℕ) → IsGcdOfMultiples a b g → Divides g a
divides_left a b g h = divided g a (subst (λ n. g ∣ n) (mul-one a) ((h.divisors g 1).1 (dvd-mul_right g 1)).0)

pub divides_right : (a b g : ℕ) → IsGcdOfMultiples a b g → Divides g b
divides_right a b g h = divided g b (subst (λ n. g ∣ n) (mul-one b) ((h.divisors g 1).1 (dvd-mul_right g 1)).1)

pub common_positive : (a b g : ℕ) → IsGcdOfMultiples a b g → 1 ≤ b → 1 ≤ g
common_positive a b g h some = ((divides_right a b g h).positive some).0

-- if b divides a * k, the rest of b divides k
pub divides_rest : (a b g k : ℕ) → IsGcdOfMultiples a b g → 1 ≤ g → b ∣ a * k → b / g ∣ k
divides_rest a b g k h some whole =
    dvd_of_mul-dvd-mul_left (b / g) some
    (subst (λ n. n ∣ g * k) (sym (divides_right a b g h).times ∙ mul_comm (b / g) g)
    ((h.divisors b k).0 (whole, dvd-mul_right b k)))

-- the state at numerator i of the loop that divides the numerators and the divisor by their common divisors
pub record Cancels (before : List ℕ) (divisor : ℕ) (now : List ℕ) (i rest : ℕ) : Type 0 where
  pub balance : product_of now * divisor ≡ product_of before * rest
  pub whole : divisor ∣ product_of before → rest ∣ product_of (drop i now)
  pub numerators : All (λ n. 1 ≤ n) now
  pub left_over : 1 ≤ rest

pub Cancels-step : (before now : List ℕ) (divisor i rest g : ℕ) → Cancels before divisor now i rest → i < length now
    → IsGcdOfMultiples (get_or now i 0) rest g → Cancels before divisor (set now i (get_or now i 0 / g)) (i + 1) (rest / g)
Cancels-step before now divisor i rest g h inside common =
    let n = get_or now i 0 in
    let left = divides_left n rest g common in
    let right = divides_right n rest g common in
    let some : 1 ≤ n = All-get_or (λ n. 1 ≤ n) now i 0 inside h.numerators in
    let positive = left.positive some in
    let kept = product_of-set now i (n / g) g inside left.times in
    record {
      balance = eq_of_mul-eq-mul_right g positive.0 _ _ (balanced _ _ divisor (product_of before) rest (rest / g) g kept h.balance right.times);
      whole = λ w. subst (λ l. rest / g ∣ product_of l) (sym (drop-set-lt (i + 1) now i (n / g) (omega arith)))
          (divides_rest n rest g _ common positive.0 (subst (λ p. rest ∣ p) (product_of-drop now i inside) (h.whole w)));
      numerators = All-set (λ n. 1 ≤ n) now i (n / g) positive.1 h.numerators;
      left_over = (right.positive h.left_over).1;
    } where
      balanced : (p q d b r s g : ℕ) → p * g ≡ q → q * d ≡ b * r → s * g ≡ r → p * d * g ≡ b * s * g
      balanced p q d b r s g e f k = omega (arith, ap (λ n. n * d) e, f, ap (λ n. b * n) k)

-- if b divides a, b is the greatest common divisor
divides_itself : (a b : ℕ) → b ∣ a → IsGcdOfMultiples a b b
divides_itself a b h = record { divisors = λ c k. (λ both. both.1, λ d. (dvd_trans c d (mul-dvd-mul_right b h k), d)) }

-- the step at a numerator that the rest of the divisor divides
pub Cancels-whole_step : (before now : List ℕ) (divisor i rest : ℕ) → Cancels before divisor now i rest → i < length now
    → get_or now i 0 % rest ≡ 0 → Cancels before divisor (set now i (get_or now i 0 / rest)) (i + 1) 1
Cancels-whole_step before now divisor i rest h inside e =
    subst (Cancels before divisor (set now i (get_or now i 0 / rest)) (i + 1)) (div_self h.left_over)
    (Cancels-step before now divisor i rest rest h inside (divides_itself (get_or now i 0) rest (dvd_of_mod-eq-zero rest e)))

pub Cancels-end : (before now : List ℕ) (divisor i rest : ℕ) → Cancels before divisor now i rest → length now ≤ i → divisor ∣ product_of before → rest ≡ 1
Cancels-end before now divisor i rest h over w =
    eq-one_of_dvd-one (subst (λ l. rest ∣ product_of l) (drop_all i now over) (h.whole w))
