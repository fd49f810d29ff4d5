-- Numbers of one to nine digits.
use Rattle.std.specs.Prelude.{ℕ, ◌≡◌, ◌≤◌, ◌&&◌, nat_le, Bool, if◌then◌else◌, List, length, Option, Some, None}
use Rattle.std.specs.List.{list_all, AllPass}
use Rattle.abc_text.specs.declared.digit.TheConstants.{LONGEST_NUMBER}
use Rattle.abc_text.specs.Digit.{is_digit, decimal}

-- A text spells a number: one to nine decimal digits; zeros may come first. Not in ABC 2.1.
pub record IsNumber (text : List ℕ) (n : ℕ) : Type 0 where
  pub some : 1 ≤ length text
  pub few : length text ≤ LONGEST_NUMBER
  pub digits : AllPass is_digit text
  pub value : n ≡ decimal text

-- One to nine decimal digits.
abbrev pub is_number : List ℕ → Bool
is_number text = nat_le 1 (length text) && nat_le (length text) LONGEST_NUMBER && list_all is_digit text

-- The number that a text spells.
unfoldable pub number_of : List ℕ → Option ℕ
number_of text = if is_number text then Some (decimal text) else None
