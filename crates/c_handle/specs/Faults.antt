-- The faults of a session as C sees them.
use Rattle.std.specs.Prelude.{List, map, Option, Some}
use Rattle.abc_fields.specs.Fault.{number_of}
use Rattle.abc_live.specs.declared.Fault.{Fault}
use Rattle.c_handle.specs.declared.open_session.OpenSession.{OpenSession}
use Rattle.c_handle.specs.Sessions.{book_of}
use Rattle.c_handle.specs.declared.fault_record.FaultRecord.{FaultRecord}

-- A fault with the number of its code.
abbrev pub record_of : Fault → FaultRecord
record_of fault = record { line = fault.line; column = fault.column; code = number_of fault.code }

-- The faults of a session's text, in order.
abbrev pub faults_in : OpenSession → Option (List FaultRecord)
faults_in held = Some (map record_of (book_of held).faults)
