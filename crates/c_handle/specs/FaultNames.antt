-- The codes of faults by their numbers.
use Rattle.std.specs.Prelude.{◌≡◌, ℕ, ◌-◌, List, Option, None, Some, if◌then◌else◌, ◌==◌, option_map, slice_get}
use Rattle.abc_fields.specs.Fault.{name_of, number_of}
use Rattle.abc_fields.specs.declared.fault_code.FaultCode.{FaultCode}
use Rattle.c_handle.specs.declared.fault_names.TheConstants.{FAULT_CODES}

-- The code of a number, counted from 1.
abbrev pub code_numbered : ℕ → Option FaultCode
code_numbered number = if number == 0 then None else slice_get FAULT_CODES (number - 1)

-- The name of the code of a number.
abbrev pub name_numbered : ℕ → Option (List ℕ)
name_numbered number = option_map name_of (code_numbered number)

-- Each code is found by its number, so no two codes have the same one.
abbrev pub IsEachNumbered : Type 0
IsEachNumbered = (code : FaultCode) → code_numbered (number_of code) ≡ Some code
