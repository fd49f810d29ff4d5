-- The results of the readers of field values.
use Rattle.std.specs.Prelude.{◌≡◌, ◌↔◌, Result, Ok, Err}
use Rattle.abc_fields.specs.declared.fault_code.FaultCode.{FaultCode}

-- A reader returns a value exactly if the grammar gives the text that value, and the fault exactly if it gives none.
pub record IsReading {V : Type 0} (Says : V → Type 0) (fault : FaultCode) (result : Result V FaultCode) : Type 0 where
  pub ok : (value : V) → (result ≡ Ok value) ↔ Says value
  pub refused : (result ≡ Err fault) ↔ ((value : V) → ¬ Says value)
