-- The unit note length of a field L:. ABC 2.1 section 3.1.7.
use Rattle.std.specs.Prelude.{ℕ, ◌+◌, ◌==◌, if◌then◌else◌, List, [], ◌∷◌, Option, Some, None, option_map, Result, ok_or}
use Rattle.abc_time.specs.declared.ratio.Ratio.{Ratio}
use Rattle.abc_fields.specs.declared.fault_code.FaultCode.{FaultCode}
use Rattle.abc_fields.specs.declared.fault_code.FaultCode.TheVariants.{BadUnit}
use Rattle.abc_text.specs.Number.{number_of}
use Rattle.abc_text.specs.Byte.{slash, digit_zero}
use Rattle.abc_text.specs.Power.{power_up_to}

-- The part of a whole note by the text after the one: a power of two up to 512.
abbrev pub part_after_one : List ℕ → Option ℕ
part_after_one [] = Some 1
part_after_one (b ∷ below) = if b == slash then power_up_to 9 (number_of below) else None

-- The part of a whole note that a text spells.
abbrev pub part_of : List ℕ → Option ℕ
part_of [] = None
part_of (b ∷ rest) = if b == digit_zero + 1 then part_after_one rest else None

-- The unit that is this part.
abbrev pub part_as_unit : ℕ → Ratio
part_as_unit n = record { num = 1; den = n }

-- The unit of a text, if it is accepted.
abbrev pub unit_in : List ℕ → Option Ratio
unit_in text = option_map part_as_unit (part_of text)

-- The unit note length of a text, or its fault.
abbrev pub unit_of : List ℕ → Result Ratio FaultCode
unit_of text = ok_or (unit_in text) BadUnit
