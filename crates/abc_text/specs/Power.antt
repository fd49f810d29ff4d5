-- Powers of two.
use Rattle.std.specs.Prelude.{ℕ, zero, suc, ◌≡◌, ◌≤◌, ◌^◌, ◌||◌, ◌==◌, Bool, if◌then◌else◌, Option, Some, None}

-- A number is a power of two with an exponent up to `most`.
pub record IsPowerUpTo (most n : ℕ) : Type 0 where
  pub power : ℕ
  pub small : power ≤ most
  pub value : n ≡ 2 ^ power

-- Tries the powers, the highest first.
unfoldable pub is_power_up_to : ℕ → ℕ → Bool
is_power_up_to zero n = n == 1
is_power_up_to (suc most) n = (n == 2 ^ suc most) || is_power_up_to most n

-- The number, if it is a power of two with an exponent up to `most`.
abbrev pub power_up_to : ℕ → Option ℕ → Option ℕ
power_up_to most None = None
power_up_to most (Some n) = if is_power_up_to most n then Some n else None
