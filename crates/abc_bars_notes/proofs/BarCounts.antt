-- Bars that are counted.
use Rattle.std.proofs.Common.{◌≡◌, ◌∙◌, ℕ, ◌*◌, ◌<◌, ◌≤◌, ◌↔◌, true, false, [], ◌∷◌, Option, Some, None, Result, Ok, sym, ap, subst, ⊎_elim, arith}
use Rattle.std.specs.Prelude.{◌&&◌, if◌then◌else◌}
use Rattle.std.specs.Result.{result_ok}
use Rattle.std.proofs.lemmas.Bool.{cases_Bool}
use Rattle.std.proofs.lemmas.Bool.Decides.{nat_tests}
use Rattle.std.proofs.lemmas.Nat.{mul-le}
use Rattle.abc_fields.specs.Meter.{HasMeterRange}
use Rattle.abc_time.specs.declared.grains.Grains.{Grains}
use Rattle.abc_time.specs.declared.lengths.LengthFault.{LengthFault}
use Rattle.abc_time.specs.declared.ratio.Ratio.{Ratio}
use Rattle.abc_time.specs.Grains.{grains_of_a_whole_note, grains_of_the_longest_length}
use Rattle.abc_time.specs.Length.{IsLength}
use Rattle.abc_bars_notes.specs.BarRest.{AreBars}
use Rattle.abc_bars_notes.specs.Lengths.{is_ratio_part, ratio_of}
use Rattle.abc_bars_notes.proofs.Factors.{ok_or_none}

-- a number that is refused is none or too large
refused : (n : ℕ) → is_ratio_part n ≡ false → 1 ≤ n → 999999999 < n
refused n e some = grind (arith, nat_tests)

accepted : (n : ℕ) → is_ratio_part n ≡ true → 1 ≤ n
accepted n e = grind (arith, nat_tests)

no_ratio : (n : ℕ) → ratio_of n 1 ≡ None → is_ratio_part n ≡ false
no_ratio n e = ⊎_elim
    (λ yes. let some : ratio_of n 1 ≡ Some (record { num = n; den = 1 }) = ap (λ b. if b && is_ratio_part 1 then Some (record { num = n; den = 1 }) else None) yes in cc)
    (λ no. no)
    (cases_Bool (is_ratio_part n))

-- If the number of bars is refused, they are too long.
pub too_many : (num den n g : ℕ) → HasMeterRange num den → ratio_of n 1 ≡ None → AreBars num den n g → ⊥
unfolding grains_of_a_whole_note grains_of_the_longest_length
too_many num den n g range e bars =
    let large : 999999999 < n = refused n (no_ratio n e) bars.some in
    let left : g * den ≤ (1024 * 929901772800) * 64 = mul-le g den (1024 * 929901772800) 64 bars.short range.den_most in
    let right : 1 * 1000000000 ≤ num * n = mul-le 1 1000000000 num n range.num_least (omega arith) in
    let exact : g * den ≡ 929901772800 * (num * n) = bars.exact in
    omega (arith, left, right, exact)

-- the factor of a number that is accepted
pub record IsFactorOf (n : ℕ) (factor : Ratio) : Type 0 where
  pub some : 1 ≤ n
  pub is : record { num = n; den = 1 } ≡ factor

pub factor_of : (n : ℕ) (factor : Ratio) → ratio_of n 1 ≡ Some factor → IsFactorOf n factor
factor_of n factor e = ⊎_elim
    (λ yes.
    let some : ratio_of n 1 ≡ Some (record { num = n; den = 1 }) = ap (λ b. if b && is_ratio_part 1 then Some (record { num = n; den = 1 }) else None) yes in
    record { some = accepted n yes; is = cc })
    (λ no.
    let none : ratio_of n 1 ≡ None = ap (λ b. if b && is_ratio_part 1 then Some (record { num = n; den = 1 }) else None) no in
    cc)
    (cases_Bool (is_ratio_part n))

-- the unit of a bar times the number of bars
pub bars_exact : (num den n : ℕ) (bar factor : Ratio) (r : Result Grains LengthFault) (found : Option Grains) → bar ≡ record { num = num; den = den } → ratio_of n 1 ≡ Some factor
    → found ≡ result_ok r → ((g : ℕ) → (r ≡ Ok (record { 0 = g })) ↔ (IsLength bar (factor ∷ []) g × (g ≤ grains_of_the_longest_length)))
    → (g : ℕ) → (found ≡ Some (record { 0 = g })) ↔ AreBars num den n g
bars_exact num den n bar factor r found is accepted_is found_is ok g =
    let f = factor_of n factor accepted_is in
    let lengths : IsLength bar (factor ∷ []) g ≡ IsLength (record { num = num; den = den }) (record { num = n; den = 1 } ∷ []) g =
    λ i. IsLength (is i) (sym f.is i ∷ []) g in (
      λ e.
          let exactly = (ok g).0 ((ok_or_none r (record { 0 = g })).0 (sym found_is ∙ e)) in
          let plain : g * (den * (1 * 1)) ≡ grains_of_a_whole_note * (num * (n * 1)) = subst (λ t. t) lengths exactly.0 in
          record { some = f.some; exact = omega (arith, plain); short = exactly.1 },
      λ bars.
          let exact = bars.exact in
          let plain : g * (den * (1 * 1)) ≡ grains_of_a_whole_note * (num * (n * 1)) = omega (arith, exact) in
          found_is ∙ (ok_or_none r (record { 0 = g })).1 ((ok g).1 (subst (λ t. t) (sym lengths) plain, bars.short)),
    )

-- if the number is refused there are no such bars
pub no_bars : (num den n : ℕ) (found : Option Grains) → HasMeterRange num den → ratio_of n 1 ≡ None → found ≡ None
    → (g : ℕ) → (found ≡ Some (record { 0 = g })) ↔ AreBars num den n g
no_bars num den n found range e is g = (λ some. cc, λ bars. absurd (too_many num den n g range e bars))
