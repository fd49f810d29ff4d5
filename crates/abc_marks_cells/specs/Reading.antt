-- The marks that a line spells.
use Rattle.std.specs.Prelude.{ℕ, Bool, false, ◌&&◌, ◌||◌, ◌==◌, if◌then◌else◌, List, [], ◌∷◌, codes, flat_map, slice_get, Option, Some, None, option_to_list}
use Rattle.std.specs.Option.{option_map}
use Rattle.std.specs.Str.{bytes_eq}
use Rattle.abc_scan.specs.declared.spanned.Spanned.{Spanned}
use Rattle.abc_scan.specs.declared.token.TokenKind.{TokenKind}
use Rattle.abc_scan.specs.declared.token.TokenKind.TheVariants as kinds
use Rattle.abc_scan.specs.Note.{begins_with_byte}
use Rattle.abc_marks_readers.specs.Decoration.{decoration_of}
use Rattle.abc_marks_readers.specs.Harmony.{harmony_of}
use Rattle.abc_marks_cells.specs.declared.written_mark.PlacedMark.{PlacedMark}
use Rattle.abc_marks_cells.specs.declared.written_mark.WrittenMark.{WrittenMark}
use Rattle.abc_marks_cells.specs.declared.written_mark.WrittenMark.TheVariants as marks
use Rattle.abc_marks_cells.specs.GraceNotes.{grace_mark}
use Rattle.abc_marks_cells.specs.TokenText.{inside_of, text_of}

-- The mark of the text between quotes, if it sets the harmony. ABC 2.1 section 4.18.
abbrev pub harmony_mark : List ℕ → Option WrittenMark
harmony_mark inside = option_map marks.Harmony (harmony_of inside)

-- The mark of a decoration. ABC 2.1 section 4.14.
abbrev pub decoration_mark : List ℕ → Option WrittenMark
decoration_mark text = option_map marks.Decoration (decoration_of text)

-- Whether a text is the dot of a dotted slur or tie, by the byte after it. ABC 2.1 section 4.11.
abbrev pub is_slur_dot : List ℕ → Option ℕ → Bool
is_slur_dot text None = false
is_slur_dot text (Some byte) = bytes_eq text (codes ".") && ((byte == 40) || (byte == 45))

-- The mark that a token without effect spells, by its column, its text and the byte after it.
abbrev pub mark_spelled : ℕ → List ℕ → Option ℕ → Option WrittenMark
mark_spelled from text next =
    if begins_with_byte 34 text then harmony_mark (inside_of text)
    else (if begins_with_byte 123 text then grace_mark from (inside_of text)
    else (if is_slur_dot text next then None else decoration_mark text))

-- The mark of a byte that begins no token: `&` begins the bar again. ABC 2.1 section 7.4.
abbrev pub overlay_mark : List ℕ → Option WrittenMark
overlay_mark text = if begins_with_byte 38 text then Some marks.Overlay else None

-- The mark that a token of this kind spells, by its column, its text and the byte after it.
abbrev pub mark_of_kind : TokenKind → ℕ → List ℕ → Option ℕ → Option WrittenMark
mark_of_kind kinds.BadByte from text next = overlay_mark text
mark_of_kind kinds.NoEffect from text next = mark_spelled from text next
mark_of_kind _ from text next = None

-- The mark that a token of a line spells, if it spells one.
abbrev pub written_at : List ℕ → Spanned TokenKind → Option WrittenMark
written_at line token = mark_of_kind token.kind token.from (text_of line token) (slice_get line token.to)

-- The same with its column.
abbrev pub marks_at : List ℕ → Spanned TokenKind → List PlacedMark
marks_at line token = option_to_list (option_map (λ mark. record { from = token.from; mark = mark }) (written_at line token))

-- The marks that the tokens of a cell of a line spell, in order of text.
abbrev pub marks_written : List ℕ → List (Spanned TokenKind) → List PlacedMark
marks_written line cell = flat_map (marks_at line) cell
