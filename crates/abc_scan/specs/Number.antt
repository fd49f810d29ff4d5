-- The number at the front of a text.
use Rattle.std.specs.Prelude.{ℕ, ◌≡◌, ◌==◌, if◌then◌else◌, List, [], take, Option, Some, None}
use Rattle.std.specs.List.{prefix_len}
use Rattle.abc_text.specs.declared.digit.TheConstants.{LONGEST_NUMBER}
use Rattle.abc_text.specs.Digit.{is_digit, decimal}
use Rattle.abc_text.specs.Number.{IsNumber}

-- A number, or nothing.
abbrev pub IsOptionalNumber : List ℕ → Option ℕ → Type 0
IsOptionalNumber text None = text ≡ []
IsOptionalNumber text (Some n) = IsNumber text n

-- The number of digits of a number at the front of a text: the tenth belongs to none. Not in ABC 2.1.
abbrev pub number_size : List ℕ → ℕ
number_size text = prefix_len is_digit (take LONGEST_NUMBER text)

-- The longest number at the front of a text, and its size in bytes.
unfoldable pub number_at : List ℕ → Option (ℕ × ℕ)
number_at text = if number_size text == 0 then None else Some (decimal (take (number_size text) text), number_size text)

-- A number that may be absent, and its size in bytes.
abbrev pub optional : Option (ℕ × ℕ) → Option ℕ × ℕ
optional None = (None, 0)
optional (Some number) = (Some number.0, number.1)

-- The longest number at the front of a text, or nothing, and its size in bytes.
abbrev pub optional_number_at : List ℕ → Option ℕ × ℕ
optional_number_at text = optional (number_at text)
