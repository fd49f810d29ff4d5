-- Laws of lowest terms.
use Rattle.std.proofs.Common.{◌≡◌, ◌≢◌, ℕ, zero, suc, ◌+◌, ◌-◌, ◌*◌, ◌/◌, ◌%◌, ◌^◌, ◌<◌, ◌≤◌, ⊎_elim, refl, sym, ap, ◌∙◌, subst, arith}
use Rattle.std.proofs.lemmas.Bool.{cond-true, cond-false, eq-eqb, ne_eqb, cases_eq}
use Rattle.std.proofs.lemmas.Nat.{pow_pos}
use Rattle.std.proofs.Math.Nat.{mul-one, one-mul, mul_assoc, dvd-mul_left, dvd-mul_right, dvd-mul_left_of_dvd, dvd-add_iff_right, eq-one_of_dvd-one, div-mul_cancel, eq_of_mul-eq-mul_right}
use Rattle.std.specs.Int.{◌∣◌}
use Rattle.abc_time.specs.declared.ratio.Ratio.{Ratio}
use Rattle.abc_fields.specs.Tempo.{halve, lowest_terms}
use Rattle.abc_fields.specs.Spelling.Tempo.{IsLowest}

abbrev pub ratio : ℕ → ℕ → Ratio
ratio n d = record { num = n; den = d }

pub halve-odd : (most num den : ℕ) → num % 2 ≢ 0 → halve most num den ≡ ratio num den
unfolding halve
halve-odd zero num den odd = refl
halve-odd (suc most) num den odd = cond-false _ _ _ (ne_eqb (num % 2) 0 odd)

halve-suc : (most num den : ℕ) → num % 2 ≡ 0 → halve (suc most) num den ≡ halve most (num / 2) (den / 2)
unfolding halve
halve-suc most num den even = cond-true _ _ _ (eq-eqb (num % 2) 0 even)

pub halve-even : (i num den : ℕ) → i < 9 → num % 2 ≡ 0 → halve (9 - i) num den ≡ halve (9 - (i + 1)) (num / 2) (den / 2)
halve-even i num den h even =
    let left : 9 - i ≡ suc (9 - (i + 1)) = omega arith in
    ap (λ n. halve n num den) left ∙ halve-suc (9 - (i + 1)) num den even

pub halve-end : (i num den : ℕ) → 9 ≤ i → halve (9 - i) num den ≡ ratio num den
unfolding halve
halve-end i num den h = let left : 9 - i ≡ zero = omega arith in ap (λ n. halve n num den) left

-- a common divisor of an odd multiple of m and of m times a power of two divides m
odd_cancel : (q k c m : ℕ) → c ∣ (2 * q + 1) * m → c ∣ 2 ^ k * m → c ∣ m
odd_cancel q zero c m h g = subst (λ n. c ∣ n) (one-mul m) g
odd_cancel q (suc k) c m h g =
    let x = 2 ^ k * m in
    let double : 2 ^ suc k * m ≡ 2 * x = let p : 2 ^ suc k ≡ 2 * 2 ^ k = omega arith in ap (λ n. n * m) p ∙ mul_assoc 2 (2 ^ k) m in
    let many : c ∣ q * (2 * x) = dvd-mul_left_of_dvd c (subst (λ n. c ∣ n) double g) q in
    let odd : 2 ^ k * ((2 * q + 1) * m) ≡ q * (2 * x) + x = regroup q (2 ^ k) m in
    let more : c ∣ q * (2 * x) + x = subst (λ n. c ∣ n) odd (dvd-mul_left_of_dvd c h (2 ^ k)) in
    odd_cancel q k c m h ((dvd-add_iff_right c many).1 more)
  where
    regroup : (q p m : ℕ) → p * ((2 * q + 1) * m) ≡ q * (2 * (p * m)) + p * m
    regroup q p m = omega arith

-- the parts halved as often as possible
pub record IsHalved (power num : ℕ) (r : Ratio) : Type 0 where
  pub value : r.num * 2 ^ power ≡ num * r.den
  pub cancels : (c m : ℕ) → c ∣ r.num * m → c ∣ r.den * m → c ∣ m
  pub den_least : 1 ≤ r.den
  pub den_most : r.den ≤ 2 ^ power
  pub num_least : 1 ≤ num → 1 ≤ r.num
  pub num_most : r.num ≤ num

halve-zero : (num : ℕ) → IsHalved 0 num (ratio num 1)
halve-zero num = record {
  value = refl;
  cancels = λ c m h g. subst (λ n. c ∣ n) (one-mul m) g;
  den_least = omega arith;
  den_most = omega arith;
  num_least = λ h. h;
  num_most = omega arith;
}

odd_IsHalved : (power num : ℕ) → num % 2 ≢ 0 → IsHalved power num (ratio num (2 ^ power))
odd_IsHalved power num odd = record {
  value = refl;
  cancels = λ c m h g. odd_cancel (num / 2) power c m (subst (λ n. c ∣ n * m) (is_odd num odd) h) g;
  den_least = pow_pos power;
  den_most = omega arith;
  num_least = λ h. h;
  num_most = omega arith;
} where
  is_odd : (num : ℕ) → num % 2 ≢ 0 → num ≡ 2 * (num / 2) + 1
  is_odd num odd = omega arith

even_IsHalved : (power num : ℕ) (r : Ratio) → num % 2 ≡ 0 → IsHalved power (num / 2) r → IsHalved (suc power) num r
even_IsHalved power num r even h = record {
  value =
      let whole : num ≡ 2 * (num / 2) = omega arith in
      let p : 2 ^ suc power ≡ 2 * 2 ^ power = omega arith in
      ap (λ n. r.num * n) p ∙ twice r.num (2 ^ power) (num / 2) r.den h.value ∙ ap (λ n. n * r.den) (sym whole);
  cancels = h.cancels;
  den_least = h.den_least;
  den_most = let most = h.den_most in omega (arith, most);
  num_least = λ some. let half : 1 ≤ num / 2 = omega arith in h.num_least half;
  num_most = let most = h.num_most in omega (arith, most);
} where
  twice : (a p n d : ℕ) → a * p ≡ n * d → a * (2 * p) ≡ 2 * n * d
  twice a p n d e = omega (arith, e)

pub halved_is : (power num den : ℕ) → den ≡ 2 ^ power → IsHalved power num (halve power num den)
unfolding halve
halved_is zero num den e = subst (λ d. IsHalved 0 num (ratio num d)) (sym e) (halve-zero num)
halved_is (suc power) num den e = ⊎_elim
    (λ even.
    let half : den / 2 ≡ 2 ^ power = let p : 2 ^ suc power ≡ 2 * 2 ^ power = omega arith in omega (arith, e, p) in
    subst (IsHalved (suc power) num) (sym (halve-suc power num den even)) (even_IsHalved power num _ even (halved_is power (num / 2) (den / 2) half)))
    (λ odd. subst (IsHalved (suc power) num) (sym (halve-odd (suc power) num den odd)) (subst (λ d. IsHalved (suc power) num (ratio num d)) (sym e) (odd_IsHalved (suc power) num odd)))
    (cases_eq (num % 2) 0)

pub lowest_is : (sum : ℕ) → IsHalved 9 sum (lowest_terms sum)
lowest_is sum = halved_is 9 sum 512 refl

pub IsLowest-halve : (power num : ℕ) (r : Ratio) → IsHalved power num r → IsLowest r
IsLowest-halve power num r h c above below = eq-one_of_dvd-one (h.cancels c 1 (subst (λ n. c ∣ n) (sym (mul-one r.num)) above) (subst (λ n. c ∣ n) (sym (mul-one r.den)) below))

-- a ratio has one form in lowest terms
one_lowest : (power num : ℕ) (r s : Ratio) → IsHalved power num s → r.num * 2 ^ power ≡ num * r.den → IsLowest r → r ≡ s
one_lowest power num r s h e least =
    let cross : r.num * s.den ≡ s.num * r.den = crossed r.num r.den s.num s.den (2 ^ power) num (pow_pos power) e h.value in
    let divides : s.den ∣ r.den = h.cancels s.den r.den (subst (λ n. s.den ∣ n) cross (dvd-mul_left s.den r.num)) (dvd-mul_right s.den r.den) in
    let t = r.den / s.den in
    let den : t * s.den ≡ r.den = div-mul_cancel s.den divides in
    let num : s.num * t ≡ r.num = eq_of_mul-eq-mul_right _ h.den_least _ _ (same_num r.num r.den s.num s.den t cross den) in
    let one : t ≡ 1 = least t (subst (λ n. t ∣ n) num (dvd-mul_left t s.num)) (subst (λ n. t ∣ n) den (dvd-mul_right t s.den)) in
    let same_den : r.den ≡ s.den = sym den ∙ ap (λ n. n * s.den) one ∙ one-mul s.den in
    let same : r.num ≡ s.num = sym num ∙ ap (λ n. s.num * n) one ∙ mul-one s.num in
    ap (λ n. ratio n r.den) same ∙ ap (λ n. ratio s.num n) same_den
  where
    crossed : (a b c d p n : ℕ) → 1 ≤ p → a * p ≡ n * b → c * p ≡ n * d → a * d ≡ c * b
    crossed a b c d p n some e f =
        let g : a * d * p ≡ c * b * p = omega (arith, ap (λ x. x * d) e, ap (λ x. x * b) f) in
        eq_of_mul-eq-mul_right _ some _ _ g

    same_num : (a b c d t : ℕ) → a * d ≡ c * b → t * d ≡ b → c * t * d ≡ a * d
    same_num a b c d t e f = omega (arith, e, ap (λ x. c * x) f)

pub lowest_terms-one : (sum : ℕ) (r : Ratio) → r.num * 512 ≡ sum * r.den → IsLowest r → r ≡ lowest_terms sum
lowest_terms-one sum r e least = one_lowest 9 sum r (lowest_terms sum) (lowest_is sum) e least
