-- A quotient as a length.
use Rattle.std.proofs.Common.{◌≡◌, ℕ, ◌*◌, ◌/◌, ◌%◌, ◌<◌, ◌≤◌, ◌↔◌, ◌⊎◌, zero, suc, inl, inr, Ok, Err, arith, ap, subst, refl}
use Rattle.std.proofs.Math.Nat.{dvd-mul_left, mod-eq-zero_of_dvd, dvd_of_mod-eq-zero, mul-div_cancel, div-mul_cancel}
use Rattle.std.proofs.lemmas.Bool.{cases_lt}
use Rattle.std.proofs.lemmas.Bool.Decides.{nat_tests}
use Rattle.std.specs.Int.{◌∣◌}
use Rattle.abc_time.specs.declared.grains.Grains.{Grains}
use Rattle.abc_time.specs.declared.lengths.LengthFault.TheVariants.{NotWhole, TooLong}
use Rattle.abc_time.specs.Grains.{grains_of_the_longest_length}
use Rattle.abc_time.specs.Length.{quotient_of}

pub quotient_of-whole : (n d g : ℕ) → 1 ≤ d → g * d ≡ n → g ≤ grains_of_the_longest_length → quotient_of n d ≡ Ok (record { 0 = g })
unfolding quotient_of
quotient_of-whole n d g some e small =
    let m : n % d ≡ 0 = mod-eq-zero_of_dvd d (subst (λ x. d ∣ x) e (dvd-mul_left d g)) in
    let q : n / d ≡ g = subst (λ x. x / d ≡ g) e (mul-div_cancel g some) in
    rw (m, q) (grind (arith, nat_tests))

pub quotient_of-long : (n d g : ℕ) → 1 ≤ d → g * d ≡ n → grains_of_the_longest_length < g → quotient_of n d ≡ Err TooLong
unfolding quotient_of
quotient_of-long n d g some e big =
    let m : n % d ≡ 0 = mod-eq-zero_of_dvd d (subst (λ x. d ∣ x) e (dvd-mul_left d g)) in
    let q : n / d ≡ g = subst (λ x. x / d ≡ g) e (mul-div_cancel g some) in
    rw (m, q) (grind (arith, nat_tests))

pub quotient_of-broken : (n d : ℕ) → ¬ (d ∣ n) → quotient_of n d ≡ Err NotWhole
unfolding quotient_of
quotient_of-broken n d h =
    let m : n % d ≡ 0 → ⊥ = λ e. h (dvd_of_mod-eq-zero d e) in
    grind (arith, nat_tests)

-- the cases of a quotient: a length, too long, or no whole number
pub data Outcome (n d : ℕ) : Type 0 where
  whole : (g : ℕ) → g * d ≡ n → g ≤ grains_of_the_longest_length → quotient_of n d ≡ Ok (record { 0 = g }) → Outcome n d
  long : (g : ℕ) → g * d ≡ n → grains_of_the_longest_length < g → quotient_of n d ≡ Err TooLong → Outcome n d
  broken : ((g : ℕ) → g * d ≡ n → ⊥) → quotient_of n d ≡ Err NotWhole → Outcome n d

outcome : (n d : ℕ) → 1 ≤ d → Outcome n d
outcome n d some = by_rest (n % d) refl where
  by_size : (g : ℕ) → g * d ≡ n → (grains_of_the_longest_length < g) ⊎ (g ≤ grains_of_the_longest_length) → Outcome n d
  by_size g e (inl big) = long g e big (quotient_of-long n d g some e big)
  by_size g e (inr small) = whole g e small (quotient_of-whole n d g some e small)

  by_rest : (rest : ℕ) → n % d ≡ rest → Outcome n d
  by_rest zero m = by_size (n / d) (div-mul_cancel d (dvd_of_mod-eq-zero d m)) (cases_lt grains_of_the_longest_length (n / d))
  by_rest (suc rest) m =
      let no : ¬ (d ∣ n) = λ h. absurd (omega (arith, mod-eq-zero_of_dvd d h)) in
      broken (λ g e. no (subst (λ x. d ∣ x) e (dvd-mul_left d g))) (quotient_of-broken n d no)

abbrev grains : ℕ → Grains
grains n = record { 0 = n }

pub quotient_of-Ok : (n d : ℕ) → 1 ≤ d → (g : ℕ)
    → (quotient_of n d ≡ Ok (record { 0 = g })) ↔ ((g * d ≡ n) × (g ≤ grains_of_the_longest_length))
quotient_of-Ok n d some g = (to (outcome n d some), λ h. quotient_of-whole n d g some h.0 h.1) where
  to : Outcome n d → quotient_of n d ≡ Ok (record { 0 = g }) → (g * d ≡ n) × (g ≤ grains_of_the_longest_length)
  to (whole k e small q) r =
      let e' : grains k ≡ grains g = cc in
      let same : k ≡ g = ap (λ (x : Grains). x.0) e' in
      (subst (λ x. x * d ≡ n) same e, subst (λ x. x ≤ grains_of_the_longest_length) same small)
  to (long k e big q) r = cc
  to (broken none q) r = cc

pub quotient_of-NotWhole : (n d : ℕ) → 1 ≤ d → (quotient_of n d ≡ Err NotWhole) ↔ ((g : ℕ) → ¬ (g * d ≡ n))
quotient_of-NotWhole n d some = (to (outcome n d some), λ no. quotient_of-broken n d (λ h. no (n / d) (div-mul_cancel d h))) where
  to : Outcome n d → quotient_of n d ≡ Err NotWhole → (g : ℕ) → ¬ (g * d ≡ n)
  to (whole k e small q) r = cc
  to (long k e big q) r = cc
  to (broken none q) r = none

pub quotient_of-TooLong : (n d : ℕ) → 1 ≤ d
    → (quotient_of n d ≡ Err TooLong) ↔ ((g : ℕ) × (g * d ≡ n) × (grains_of_the_longest_length < g))
quotient_of-TooLong n d some = (to (outcome n d some), λ h. quotient_of-long n d h.0 some h.1 h.2) where
  to : Outcome n d → quotient_of n d ≡ Err TooLong → (g : ℕ) × (g * d ≡ n) × (grains_of_the_longest_length < g)
  to (whole k e small q) r = cc
  to (long k e big q) r = (k, e, big)
  to (broken none q) r = cc
