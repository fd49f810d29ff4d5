-- The fault of a field line. Not in ABC 2.1.
use Rattle.std.specs.Prelude.{ℕ, List, [], ◌∷◌, Option, Some, None}
use Rattle.abc_fields.specs.declared.fault_code.FaultCode.{FaultCode}
use Rattle.abc_bars_items.specs.declared.column.TheConstants.{FIRST_COLUMN}

-- The faults of a field line, by the fault of its field: it is at the line's beginning.
abbrev pub faults_of : Option FaultCode → List (ℕ × FaultCode)
faults_of None = []
faults_of (Some code) = (FIRST_COLUMN, code) ∷ []
