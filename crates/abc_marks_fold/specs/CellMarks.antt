-- The marks of a cell, in the state in which it is entered.
use Rattle.std.specs.Prelude.{Bool, is_none, List, [], Option, Some, None}
use Rattle.abc_fields.specs.Key.{empty_key}
use Rattle.abc_bars_body.specs.declared.body.Body.{Body}
use Rattle.abc_bars_body.specs.declared.entry.Entry.{Entry}
use Rattle.abc_bars_body.specs.declared.entry.Entry.TheVariants as entries
use Rattle.abc_bars_body.specs.BodyOpening.{body_from}
use Rattle.abc_bars_body.specs.Step.{body_step, entry_step, line_in}
use Rattle.abc_bars_header.specs.declared.header.Header.{Header}
use Rattle.abc_bars_header.specs.Header.{opening_header}
use Rattle.abc_bars_header.specs.HeaderLine.{HeaderLine}
use Rattle.abc_scan.specs.declared.spanned.Spanned.{Spanned}
use Rattle.abc_scan.specs.declared.token.TokenKind.{TokenKind}
use Rattle.abc_marks.specs.declared.mark.Mark.{Mark}
use Rattle.abc_marks.specs.declared.performed_items.PerformedItems.{PerformedItems}
use Rattle.abc_marks_cells.specs.declared.written_mark.PlacedMark.{PlacedMark}
use Rattle.abc_marks_cells.specs.CellWalk.{marks_of}

-- Whether a cell is music: no field line and no directive line.
abbrev pub is_music : List (Spanned TokenKind) → Bool
is_music cell = is_none (line_in cell)

-- The body that a cell begins after a header, if it is music and no line of the header.
abbrev pub body_after : Header → Option HeaderLine → Option Body
body_after header None = Some (body_from header empty_key)
body_after header (Some line) = None

-- The body in which a cell is read, if it is read in one.
abbrev pub body_here : Entry → List (Spanned TokenKind) → Option Body
body_here (entries.FileHeader defaults) cell = None
body_here (entries.Opening defaults) cell = body_after (opening_header defaults) (line_in cell)
body_here (entries.Header header) cell = body_after header (line_in cell)
body_here (entries.Body body) cell = Some body

-- The marks of a cell that is read in a body, or in none.
abbrev pub marks_by : Option Body → List (Spanned TokenKind) → List PlacedMark → List Mark
marks_by None cell written = []
marks_by (Some body) cell written = marks_of body cell written

-- The marks of a cell, by those that it spells: a header has none.
abbrev pub cell_marks : Entry → List (Spanned TokenKind) → List PlacedMark → List Mark
cell_marks entry cell written = marks_by (body_here entry cell) cell written

-- What a cell of a body gives: the items of the written reading, and its marks.
abbrev pub body_given : Body → List (Spanned TokenKind) → List PlacedMark → PerformedItems
body_given body cell written = record { base = (body_step body cell).1; marks = marks_of body cell written }

-- What a cell without marks gives.
abbrev pub plain_given : Entry → List (Spanned TokenKind) → PerformedItems
plain_given entry cell = record { base = (entry_step entry cell).1; marks = [] }

-- What a cell gives, in the state in which it is entered.
abbrev pub cell_given : Entry → List (Spanned TokenKind) → List PlacedMark → PerformedItems
cell_given entry cell written = record { base = (entry_step entry cell).1; marks = cell_marks entry cell written }
