-- Laws of powers of two.
use Rattle.std.proofs.Common.{◌≡◌, ℕ, zero, suc, ◌^◌, ◌≤◌, Bool, true, false, cond, Option, Some, None, refl, sym, ap, ◌∙◌, subst, ⊎_elim, arith}
use Rattle.std.specs.Prelude.{◌==◌}
use Rattle.std.proofs.lemmas.Bool.{cond-true, eqb-true, eq-eqb, ne_eqb, or_cases, or_from, or_left, or_right, cases_eq}
use Rattle.std.proofs.lemmas.Nat.{pow_pos}
use Rattle.std.proofs.Math.Nat.{pow-le-pow_right}
use Rattle.abc_text.specs.Power.{IsPowerUpTo, is_power_up_to, power_up_to}

-- a number that passes is a power
pub power_from : (most n : ℕ) → is_power_up_to most n ≡ true → IsPowerUpTo most n
unfolding is_power_up_to
power_from zero n e = record { power = 0; small = omega arith; value = eqb-true n 1 e }
power_from (suc most) n e = ⊎_elim
    (λ here. record { power = suc most; small = omega arith; value = eqb-true n (2 ^ suc most) here })
    (λ below. let h = power_from most n below in let small : h.power ≤ most = h.small in record { power = h.power; small = omega arith; value = h.value })
    (or_cases _ _ e)

-- each power passes
passes : (most n k : ℕ) → k ≤ most → n ≡ 2 ^ k → is_power_up_to most n ≡ true
unfolding is_power_up_to
passes zero n k small e = let at : k ≡ 0 = omega arith in eq-eqb n 1 (e ∙ ap (λ j. 2 ^ j) at)
passes (suc most) n k small e = ⊎_elim
    (λ here. or_left (n == 2 ^ suc most) _ (eq-eqb n (2 ^ suc most) (e ∙ ap (λ j. 2 ^ j) here)))
    (λ other. or_right (n == 2 ^ suc most) _ (passes most n k (omega arith) e))
    (cases_eq k (suc most))

pub power_to : (most n : ℕ) → IsPowerUpTo most n → is_power_up_to most n ≡ true
power_to most n h = passes most n h.power h.small h.value

-- a number that is none of the powers does not pass
pub power_none : (most n : ℕ) → ((k : ℕ) → k ≤ most → n ≡ 2 ^ k → ⊥) → is_power_up_to most n ≡ false
unfolding is_power_up_to
power_none zero n none = ne_eqb n 1 (none 0 (omega arith))
power_none (suc most) n none = or_from _ _ (ne_eqb n (2 ^ suc most) (none (suc most) (omega arith))) (power_none most n (λ k small. none k (omega arith)))

-- the size of a power
pub power_least : (most n : ℕ) → IsPowerUpTo most n → 1 ≤ n
power_least most n h = omega (arith, pow_pos h.power, h.value)

pub power_most : (most n : ℕ) → IsPowerUpTo most n → n ≤ 2 ^ most
power_most most n h = let below : 2 ^ h.power ≤ 2 ^ most = pow-le-pow_right (omega arith) h.small in omega (arith, below, h.value)

-- a number that is known to be a power, and the other way round
passed : (most n m : ℕ) (t : Bool) → t ≡ is_power_up_to most n → cond t (Some n) None ≡ Some m → (n ≡ m) × IsPowerUpTo most m
passed most n m true e h = let same : n ≡ m = cc in (same, subst (IsPowerUpTo most) same (power_from most n (sym e)))
passed most n m false e h = cc

pub power_up_to-from : (most : ℕ) (o : Option ℕ) (m : ℕ) → power_up_to most o ≡ Some m → (o ≡ Some m) × IsPowerUpTo most m
power_up_to-from most None m h = cc
power_up_to-from most (Some n) m h = let is = passed most n m (is_power_up_to most n) refl h in (ap Some is.0, is.1)

pub power_up_to-to : (most : ℕ) (o : Option ℕ) (m : ℕ) → o ≡ Some m → IsPowerUpTo most m → power_up_to most o ≡ Some m
power_up_to-to most o m e h = ap (power_up_to most) e ∙ cond-true _ _ _ (power_to most m h)
