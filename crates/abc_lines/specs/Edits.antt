-- The text after an edit, and when there is none. Not in ABC 2.1.
use Rattle.std.specs.Prelude.{◌≡◌, ◌⊎◌, ℕ, ◌+◌, ◌-◌, ◌&&◌, ◌==◌, not, if◌then◌else◌, [], length, nat_le, Option, Some, None, Result}
use Rattle.std.specs.Prelude.{Ok, Err, IsOk}
use Rattle.std.specs.List.{list_all}
use Rattle.abc_lines.specs.declared.limits.TheConstants.{MOST_LINES}
use Rattle.abc_lines.specs.declared.edit_error.EditError.{EditError}
use Rattle.abc_lines.specs.declared.edit_error.EditError.TheVariants.{BadRange, BadLine, TooLarge, OutOfMemory}
use Rattle.abc_lines.specs.Text.{Text, Splice, is_line, spliced}

-- The text after a splice, or the first reason why there is none.
unfoldable pub replaced : Text → Splice → Result Text EditError
replaced text s =
    if not (nat_le (s.at + s.removed) (length text)) then Err BadRange else
    if not (list_all is_line s.lines) then Err BadLine else
    if not (nat_le (length (spliced text s)) MOST_LINES) then Err TooLarge else
    Ok (spliced text s)

-- Edits count lines from 1. One that names no lines, as line 0 or a range that runs backwards, is no splice.

-- Lines put before a line.
abbrev pub insertion : ℕ → Text → Option Splice
insertion at lines = if at == 0 then None else Some (record { at = at - 1; removed = 0; lines = lines })

-- Lines put instead of those from one to another.
abbrev pub replacement : ℕ → ℕ → Text → Option Splice
replacement from to lines =
    if nat_le 1 from && nat_le from to then Some (record { at = from - 1; removed = to + 1 - from; lines = lines }) else None

-- The lines from one to another taken out.
abbrev pub deletion : ℕ → ℕ → Option Splice
deletion from to = replacement from to []

-- The text after an edit, or the first reason why there is none.
unfoldable pub edited : Text → Option Splice → Result Text EditError
edited text None = Err BadRange
edited text (Some splice) = replaced text splice

-- A refusal for this reason; without a reason it is out of memory.
abbrev pub Refuses : EditError → Result Text EditError → Type 0
Refuses e answer = (answer ≡ Err e) ⊎ ((e ≡ OutOfMemory) × IsOk answer)
