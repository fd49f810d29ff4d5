-- Decimal digits and their values.
use Rattle.std.specs.Prelude.{ℕ, ◌+◌, ◌-◌, ◌*◌, Bool, List, fold}
use Rattle.std.specs.Char.{is_ascii_digit}
use Rattle.abc_text.specs.Byte.{digit_zero}

-- A digit, 0 to 9.
abbrev pub is_digit : ℕ → Bool
is_digit b = is_ascii_digit b

-- The value of digits, the highest first.
abbrev pub decimal : List ℕ → ℕ
decimal digits = fold (λ n digit. n * 10 + (digit - digit_zero)) 0 digits
