-- The meter of a field M:. ABC 2.1 section 3.1.6.
use Rattle.std.specs.Prelude.{ℕ, ◌+◌, ◌-◌, ◌≤◌, ◌==◌, ◌&&◌, ◌||◌, nat_le, Bool, if◌then◌else◌, List, [], ◌∷◌, length, codes, take}
use Rattle.std.specs.Prelude.{slice_index, Option, Some, None, Result}
use Rattle.std.specs.List.{slice_split, list_any}
use Rattle.std.specs.Str.{bytes_eq}
use Rattle.std.specs.Option.{ok_or, option_and_then}
use Rattle.abc_fields.specs.declared.fault_code.FaultCode.{FaultCode}
use Rattle.abc_fields.specs.declared.fault_code.FaultCode.TheVariants.{BadMeter}
use Rattle.abc_fields.specs.declared.meter.Meter.{Meter}
use Rattle.abc_fields.specs.declared.meter.Meter.TheVariants.{Free, Of}
use Rattle.abc_text.specs.Cut.{cut_at}
use Rattle.abc_text.specs.Number.{number_of}
use Rattle.abc_text.specs.Power.{IsPowerUpTo, power_up_to}
use Rattle.abc_text.specs.Byte.{open_parenthesis, close_parenthesis, plus_sign, slash}

-- A bar has 1 to 255 parts. A whole note has a power of two of them, up to 64.
pub record HasMeterRange (num den : ℕ) : Type 0 where
  pub num_least : 1 ≤ num
  pub num_most : num ≤ 255
  pub den_least : 1 ≤ den
  pub den_most : den ≤ 64
  pub den_power : IsPowerUpTo 6 den

-- The range of each meter that is read.
abbrev pub IsMeterInRange : Meter → Type 0
IsMeterInRange Free = Unit {0}
IsMeterInRange (Of num den) = HasMeterRange num den

-- The sum of two numbers, if there are both.
abbrev pub add_numbers : Option ℕ → Option ℕ → Option ℕ
add_numbers None b = None
add_numbers (Some a) None = None
add_numbers (Some a) (Some b) = Some (a + b)

-- The sum of the numbers that words spell, if each spells one.
abbrev pub sum_of_words : List (List ℕ) → Option ℕ
sum_of_words [] = Some 0
sum_of_words (word ∷ words) = add_numbers (number_of word) (sum_of_words words)

-- A number, if it is at most 255.
abbrev pub at_most_255 : Option ℕ → Option ℕ
at_most_255 None = None
at_most_255 (Some n) = if nat_le n 255 then Some n else None

-- The sum so far and one more number, if the result is at most 255.
abbrev pub add_word : ℕ → Option ℕ → Option ℕ
add_word total n = at_most_255 (add_numbers (Some total) n)

-- The sum of the numbers between plus signs, if it is at most 255.
unfoldable pub sum_of : List ℕ → Option ℕ
sum_of text = at_most_255 (sum_of_words (slice_split (λ b. b == plus_sign) text))

-- The text has a plus.
abbrev pub has_plus : List ℕ → Bool
has_plus text = list_any (λ b. b == plus_sign) text

-- A text with a plus, and a parenthesis after it.
abbrev pub closes_a_sum : List ℕ → Bool
closes_a_sum text = (slice_index text (length text - 1) == close_parenthesis) && has_plus (take (length text - 1) text)

-- The number above the stroke; a sum may be in parentheses.
abbrev pub upper_number : List ℕ → Option ℕ
upper_number [] = sum_of []
upper_number (b ∷ rest) =
    if (b == open_parenthesis) && closes_a_sum rest
    then sum_of (take (length rest - 1) rest)
    else sum_of (b ∷ rest)

-- The meter of the numbers above and below the stroke.
abbrev pub meter_by : Option ℕ → Option ℕ → Option Meter
meter_by None den = None
meter_by (Some num) None = None
meter_by (Some num) (Some den) = if num == 0 then None else Some (Of num den)

-- The meter of a text that is cut at a stroke: below it is a power of two up to 64.
abbrev pub meter_of_parts : List ℕ × List ℕ → Option Meter
meter_of_parts parts = meter_by (upper_number parts.0) (power_up_to 6 (number_of parts.1))

-- The meter of a fraction.
unfoldable pub fraction_of : List ℕ → Option Meter
fraction_of text = option_and_then meter_of_parts (cut_at slash text)

-- The meter of a symbol or a fraction.
unfoldable pub symbol_or_fraction : List ℕ → Option Meter
symbol_or_fraction text =
    if bytes_eq text [] || bytes_eq text (codes "none") then Some Free
    else if bytes_eq text (codes "C") then Some (Of 4 4)
    else if bytes_eq text (codes "C|") then Some (Of 2 2)
    else fraction_of text

-- The meter of a text.
abbrev pub meter_of : List ℕ → Result Meter FaultCode
meter_of text = ok_or (symbol_or_fraction text) BadMeter
