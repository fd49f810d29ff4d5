-- The lengths of the notes, rests and chords of lines, at any place of a tune after any file header.
use Rattle.std.specs.Prelude.{◌≡◌, ℕ, true, List, length, Option}
use Rattle.std.specs.List.{Contains}
use Rattle.abc_scan.specs.declared.chord.Chord.{Chord}
use Rattle.abc_scan.specs.declared.length.WrittenLength.{WrittenLength}
use Rattle.abc_scan.specs.declared.note.Note.{Note}
use Rattle.abc_scan.specs.declared.token.TokenKind.{TokenKind}
use Rattle.abc_scan.specs.declared.token.TokenKind.TheVariants as kinds
use Rattle.abc_scan.specs.Cell.{cells_of}
use Rattle.abc_scan.specs.Line.{tokens_of}
use Rattle.abc_bars_notes.specs.TokenRole.{has_note}
use Rattle.abc_bars.specs.LookBack.Along.{CellTokens, values_of_header}
use Rattle.abc_bars.specs.LookBack.CellPlace.{CellPlace, GivesItem, cell_with}
use Rattle.abc_bars.specs.LookBack.Lengths.{LastsAsNote, LastsAsRest, SoundsAsChord, state_there}

-- A token of this kind at a place of a tune is in a cell of a line, after a file header or none.
pub record IsInLine (place : CellPlace) (kind : TokenKind) : Type 0 where
  pub header : Option (List CellTokens)
  pub line : List ℕ
  pub values : place.values ≡ values_of_header header
  pub cell : Contains (cells_of (tokens_of line)) (cell_with place kind)

-- A note of a line lasts by the unit and the tuplet of its voice, and by the marks of broken rhythm that act on it in its cell.
abbrev pub NotesOfLinesLast : Type 0
NotesOfLinesLast =
    (place : CellPlace) (note : Note) → IsInLine place (kinds.Note note)
    → GivesItem place (kinds.Note note) (LastsAsNote (state_there place) (cell_with place (kinds.Note note)) (length place.front)
    note.length)

-- So does a rest of a line.
abbrev pub RestsOfLinesLast : Type 0
RestsOfLinesLast =
    (place : CellPlace) (written : WrittenLength) → IsInLine place (kinds.Rest written)
    → GivesItem place (kinds.Rest written) (LastsAsRest (state_there place) (cell_with place (kinds.Rest written))
    (length place.front) written)

-- So does each of the first sixteen notes of a chord of a line.
abbrev pub ChordsOfLinesLast : Type 0
ChordsOfLinesLast =
    (place : CellPlace) (chord : Chord) → has_note chord.parts ≡ true → IsInLine place (kinds.Chord chord)
    → GivesItem place (kinds.Chord chord) (SoundsAsChord (state_there place) (cell_with place (kinds.Chord chord))
    (length place.front) chord)
