-- What a cell gives in the state in which it is entered, and the state after it.
use Rattle.std.specs.Prelude.{ℕ, List, [], ◌∷◌, Option, Some, None}
use Rattle.abc_fields.specs.Key.{empty_key, key_of, key_or_empty}
use Rattle.abc_scan.specs.declared.directive.Directive.{Directive}
use Rattle.abc_scan.specs.declared.field.Field.{Field}
use Rattle.abc_scan.specs.declared.spanned.Spanned.{Spanned}
use Rattle.abc_scan.specs.declared.token.TokenKind.{TokenKind}
use Rattle.abc_scan.specs.declared.token.TokenKind.TheVariants as kinds
use Rattle.abc_bars_body.specs.declared.body.Body.{Body}
use Rattle.abc_bars_body.specs.declared.cell.CellResult.{CellResult}
use Rattle.abc_bars_header.specs.declared.defaults.Defaults.{Defaults}
use Rattle.abc_bars_body.specs.declared.entry.Entry.{Entry}
use Rattle.abc_bars_body.specs.declared.entry.Entry.TheVariants as entries
use Rattle.abc_bars_header.specs.declared.field_kind.FieldKind.{FieldKind}
use Rattle.abc_bars_header.specs.declared.file_header.FileHeaderResult.{FileHeaderResult}
use Rattle.abc_bars_header.specs.declared.field_kind.FieldKind.TheVariants as fields
use Rattle.abc_bars_header.specs.declared.header.Header.{Header}
use Rattle.abc_bars_header.specs.declared.header.HeaderResult.{HeaderResult}
use Rattle.abc_bars_items.specs.Item.{Items}
use Rattle.abc_bars_body.specs.BodyOpening.{body_from}
use Rattle.abc_bars_body.specs.Cell.{cell_result}
use Rattle.abc_bars_header.specs.FieldKind.{kind_of}
use Rattle.abc_bars_header.specs.FileHeader.{file_header_result}
use Rattle.abc_bars_header.specs.Header.{header_result, opening_header}
use Rattle.abc_bars_header.specs.HeaderLine.{HeaderLine, FieldLine, DirectiveLine}

-- The field that a token is, if it is a field line.
abbrev pub field_line : TokenKind → Option Field
field_line (kinds.Field field) = Some field
field_line _ = None

-- The field that a cell is, if it is a field line.
abbrev pub field_in : List (Spanned TokenKind) → Option Field
field_in [] = None
field_in (token ∷ rest) = field_line token.kind

-- The directive that a token is, if it is a directive line.
abbrev pub directive_line : TokenKind → Option Directive
directive_line (kinds.Directive directive) = Some directive
directive_line _ = None

-- The directive that a cell is, if it is a directive line.
abbrev pub directive_in : List (Spanned TokenKind) → Option Directive
directive_in [] = None
directive_in (token ∷ rest) = directive_line token.kind

-- The line of a header that a field or a directive is, if there is one of them.
abbrev pub line_of : Option Field → Option Directive → Option HeaderLine
line_of (Some field) directive = Some (FieldLine field)
line_of None (Some directive) = Some (DirectiveLine directive)
line_of None None = None

-- The line of a header that a cell is, if it is one and not music.
abbrev pub line_in : List (Spanned TokenKind) → Option HeaderLine
line_in cell = line_of (field_in cell) (directive_in cell)

-- The state after a cell, and what it gives.
abbrev pub step_of : CellResult → Entry × Items
step_of given = (entries.Body given.body, given.items)

-- A cell of a body.
abbrev pub body_step : Body → List (Spanned TokenKind) → Entry × Items
body_step body cell = step_of (cell_result body cell)

-- The state after a field of this kind in a header: a K: ends it, even one that is refused, which sets
-- an empty signature. ABC 2.1 section 3.1.14; the refused one is not in ABC 2.1.
abbrev pub following_kind : Header → FieldKind → List ℕ → Entry
following_kind header fields.Key value = entries.Body (body_from header (key_or_empty (key_of value)))
following_kind header _ value = entries.Header header

-- The state after a line of a header: no directive ends it.
abbrev pub following_line : Header → HeaderLine → Entry
following_line header (FieldLine field) = following_kind header (kind_of field.letter) field.value
following_line header (DirectiveLine directive) = entries.Header header

-- The state after a line of a header, and what it gives.
abbrev pub line_step : HeaderResult → HeaderLine → Entry × Items
line_step given line = (following_line given.header line, record { items = given.items; faults = given.faults })

-- After a cell of a header, which is this line or music. A line of music ends the header as an empty K: would, and is a cell
-- of the body. The latter is not in ABC 2.1.
abbrev pub header_step : Header → List (Spanned TokenKind) → Option HeaderLine → Entry × Items
header_step header cell (Some line) = line_step (header_result header line) line
header_step header cell None = body_step (body_from header empty_key) cell

-- The state after a cell of a file header, and what it gives: it has no items.
abbrev pub file_header_step_of : FileHeaderResult → Entry × Items
file_header_step_of given = (entries.FileHeader given.defaults, record { items = []; faults = given.faults })

-- A cell of a file header, which is this line or music: the latter does nothing.
abbrev pub file_header_step : Defaults → Option HeaderLine → Entry × Items
file_header_step defaults None = file_header_step_of (record { defaults = defaults; faults = [] })
file_header_step defaults (Some line) = file_header_step_of (file_header_result defaults line)

-- The state after a cell that is entered in this state, and what the cell gives.
unfoldable pub entry_step : Entry → List (Spanned TokenKind) → Entry × Items
entry_step (entries.FileHeader defaults) cell = file_header_step defaults (line_in cell)
entry_step (entries.Opening defaults) cell = header_step (opening_header defaults) cell (line_in cell)
entry_step (entries.Header header) cell = header_step header cell (line_in cell)
entry_step (entries.Body body) cell = body_step body cell
