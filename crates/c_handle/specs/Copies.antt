-- Items that are copied into a buffer of the caller: all of them if they fit, else none. The call reports their count either way.
use Rattle.std.specs.Prelude.{ℕ, if◌then◌else◌, List, ◌++◌, drop, length, nat_le, Option, None, Some}
use Rattle.c_handle.specs.declared.codes.TheConstants.{CODE_OK, CODE_MISUSED, CODE_NOT_FOUND, CODE_SHORT_BUFFER}

-- A code, a count, and a buffer.
abbrev pub CopyResult : Type 0 → Type 0
CopyResult A = ℕ × ℕ × List A

-- These items, copied over the front of a buffer.
abbrev pub copy_answer : {A : Type 0} → List A → List A → CopyResult A
copy_answer items buffer =
    if nat_le (length items) (length buffer) then (CODE_OK, length items, items ++ drop (length items) buffer)
    else (CODE_SHORT_BUFFER, length items, buffer)

-- Items that may be missing.
abbrev pub lookup_answer : {A : Type 0} → Option (List A) → List A → CopyResult A
lookup_answer None buffer = (CODE_NOT_FOUND, 0, buffer)
lookup_answer (Some items) buffer = copy_answer items buffer

-- Items of a session, which may be missing, too.
abbrev pub slot_answer : {A : Type 0} → Option (Option (List A)) → List A → CopyResult A
slot_answer None buffer = (CODE_MISUSED, 0, buffer)
slot_answer (Some items) buffer = lookup_answer items buffer
