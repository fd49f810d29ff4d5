-- The session of a slot.
use Rattle.std.specs.Prelude.{◌==◌, if◌then◌else◌, Option, None}
use Rattle.c_handle.specs.declared.open_session.OpenSession.{OpenSession}
use Rattle.c_handle.specs.declared.slot.SessionSlot.{SessionSlot}
use Rattle.c_handle.specs.declared.slot.TheConstants.{OPEN}

abbrev pub session_in : SessionSlot → Option OpenSession
session_in slot = if slot.state == OPEN then slot.handle.held else None
