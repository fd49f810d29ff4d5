-- The reference number of a tune. ABC 2.1 section 3.1.1.
use Rattle.std.specs.Prelude.{ℕ, ◌==◌, if◌then◌else◌, List, [], ◌∷◌, Option, Some, None, Result, Ok, Err}
use Rattle.abc_fields.specs.declared.fault_code.FaultCode.{FaultCode}
use Rattle.abc_fields.specs.declared.fault_code.FaultCode.TheVariants.{BadReference}
use Rattle.abc_text.specs.Number.{number_of}

-- A number from 1.
abbrev pub from_one : Option ℕ → Result ℕ FaultCode
from_one None = Err BadReference
from_one (Some number) = if number == 0 then Err BadReference else Ok number

-- The reference number of a value. That an empty value counts as 0 is not in ABC 2.1.
abbrev pub reference_of : List ℕ → Result ℕ FaultCode
reference_of [] = Ok 0
reference_of (b ∷ bs) = from_one (number_of (b ∷ bs))
