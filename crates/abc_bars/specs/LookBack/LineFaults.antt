-- BadLength of the notes, rests and chords in the cells of lines, at any place of a tune after any file header. ABC 2.1
-- sections 4.3, 4.5 and 4.17; the fault is not in ABC 2.1.
use Rattle.std.specs.Prelude.{◌≡◌, ℕ, List, [], filter, length, Option, Some, None, take}
use Rattle.std.specs.List.{Contains}
use Rattle.abc_scan.specs.declared.token.TokenKind.{TokenKind}
use Rattle.abc_scan.specs.declared.token.TokenKind.TheVariants as kinds
use Rattle.abc_scan.specs.Cell.{cells_of}
use Rattle.abc_scan.specs.Line.{tokens_of}
use Rattle.abc_bars_items.specs.Column.{column_of}
use Rattle.abc_bars_notes.specs.ChordFaults.{AreFaultsOf}
use Rattle.abc_bars_notes.specs.ChordNotes.{notes_of}
use Rattle.abc_bars_notes.specs.Lasting.{Lasts}
use Rattle.abc_bars.specs.LookBack.Along.{CellTokens, values_of_header}
use Rattle.abc_bars.specs.LookBack.CellFaults.{AreFaultsAfter, CellStart, Faults, HasLengthFaults, IsLengthFault, is_bad_length_code}
use Rattle.abc_bars.specs.LookBack.CellPlace.{CellPlace, cell_with}
use Rattle.abc_bars.specs.LookBack.Lengths.{state_there}
use Rattle.abc_bars.specs.LookBack.Place.{result_in_body}

-- A cell is one of a line, after a file header or none.
pub record IsCellOfLine (start : CellStart) (cell : CellTokens) : Type 0 where
  pub header : Option (List CellTokens)
  pub line : List ℕ
  pub values : start.values ≡ values_of_header header
  pub among : Contains (cells_of (tokens_of line)) cell

-- What a token has of it: a note or rest if the rule says no length for it, and a chord at each of its first sixteen notes for
-- which the rule says none. A rest of bars has it as in any cell.
abbrev pub HasLengthFaultsOfLine : CellPlace → TokenKind → Faults → Type 0
HasLengthFaultsOfLine place (kinds.Note note) own =
    IsLengthFault (Lasts (state_there place) (cell_with place (kinds.Note note)) (length place.front) note.length None)
    (column_of place.from) own
HasLengthFaultsOfLine place (kinds.Rest written) own =
    IsLengthFault (Lasts (state_there place) (cell_with place (kinds.Rest written)) (length place.front) written None)
    (column_of place.from) own
HasLengthFaultsOfLine place (kinds.Chord chord) own =
    AreFaultsOf (λ note. Lasts (state_there place) (cell_with place (kinds.Chord chord)) (length place.front) note.length
    (Some chord.length))
    place.from (take 16 (notes_of chord)) own
HasLengthFaultsOfLine place kind own = HasLengthFaults place kind own

-- Of the faults of each cell of a line BadLength is at just these tokens.
abbrev pub AreLengthFaultsOfLines : Type 0
AreLengthFaultsOfLines =
    (start : CellStart) (cell : CellTokens) → IsCellOfLine start cell
    → AreFaultsAfter HasLengthFaultsOfLine start [] cell
    (filter (λ fault. is_bad_length_code fault.1) (result_in_body start.values start.fields start.key start.before cell).faults)
