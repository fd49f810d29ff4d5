-- Greatest common divisors.
use Rattle.std.specs.Prelude.{ℕ, ◌*◌, ◌↔◌}
use Rattle.std.specs.Int.{◌∣◌}

-- For each k, the common divisors of a * k and b * k are the divisors of g * k. At k = 1 this says
-- that g is the greatest common divisor of a and b; the other k make cancelling by g exact. Not in ABC 2.1.
pub record IsGcdOfMultiples (a b g : ℕ) : Type 0 where
  pub divisors : (c k : ℕ) → ((c ∣ a * k) × (c ∣ b * k)) ↔ (c ∣ g * k)
