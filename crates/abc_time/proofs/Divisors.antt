-- Common divisors by Euclid's steps.
use Rattle.std.proofs.Common.{◌∙◌, ◌≡◌, ℕ, ◌+◌, ◌*◌, ◌/◌, ◌%◌, ◌↔◌, arith, ap, sym, subst}
use Rattle.std.proofs.Math.Nat.{dvd-zero, dvd-add_iff_right, dvd-mul_left_of_dvd, zero-mul}
use Rattle.std.proofs.lemmas.Nat.{div-add-mod'}
use Rattle.std.specs.Int.{◌∣◌}
use Rattle.abc_time.specs.Gcd.{IsGcdOfMultiples}

-- each multiple of the pair a, b has the common divisors of that multiple of the pair x, y
pub record SharesDivisors (a b x y : ℕ) : Type 0 where
  pub shared : (c k : ℕ) → ((c ∣ a * k) × (c ∣ b * k)) ↔ ((c ∣ x * k) × (c ∣ y * k))

pub SharesDivisors-start : (a b : ℕ) → SharesDivisors a b a b
SharesDivisors-start a b = record { shared = λ c k. (λ p. p, λ p. p) }

-- Euclid's step
pub SharesDivisors-mod : (a b x y : ℕ) → SharesDivisors a b x y → SharesDivisors a b y (x % y)
SharesDivisors-mod a b x y h = record { shared = λ c k. (λ p. to c k ((h.shared c k).0 p), λ q. (h.shared c k).1 (back c k q)) } where
  parts : (k : ℕ) → x * k ≡ x / y * (y * k) + x % y * k
  parts k = omega (arith, ap (λ n. n * k) (div-add-mod' x y))

  to : (c k : ℕ) → (c ∣ x * k) × (c ∣ y * k) → (c ∣ y * k) × (c ∣ x % y * k)
  to c k p = (
    p.1,
    (dvd-add_iff_right c {m = x / y * (y * k)} {n = x % y * k} (dvd-mul_left_of_dvd c p.1 (x / y))).1
        (subst (λ n. c ∣ n) (parts k) p.0),
  )

  back : (c k : ℕ) → (c ∣ y * k) × (c ∣ x % y * k) → (c ∣ x * k) × (c ∣ y * k)
  back c k q = (
    subst (λ n. c ∣ n) (sym (parts k))
        ((dvd-add_iff_right c {m = x / y * (y * k)} {n = x % y * k} (dvd-mul_left_of_dvd c q.0 (x / y))).0 q.1),
    q.0,
  )

pub SharesDivisors-end : (a b g y : ℕ) → y ≡ 0 → SharesDivisors a b g y → IsGcdOfMultiples a b g
SharesDivisors-end a b g y e h = record {
  divisors = λ c k. (
    λ p. ((h.shared c k).0 p).0,
    λ q. (h.shared c k).1 (q, subst (λ n. c ∣ n) (sym (ap (λ n. n * k) e ∙ zero-mul k)) (dvd-zero c)),
  );
}
