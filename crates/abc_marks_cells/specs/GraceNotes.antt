-- The notes between two braces. ABC 2.1 section 4.12.
use Rattle.std.specs.Prelude.{ℕ, ◌+◌, ◌==◌, nat_lt, if◌then◌else◌, List, [], ◌∷◌, ◌++◌, length, Option, Some, None}
use Rattle.abc_scan.specs.declared.chord_part.ChordPartKind.{ChordPartKind}
use Rattle.abc_scan.specs.declared.chord_part.ChordPartKind.TheVariants as parts
use Rattle.abc_scan.specs.declared.spanned.Spanned.{Spanned}
use Rattle.abc_scan.specs.Chord.{parts_of}
use Rattle.abc_marks.specs.declared.grace_note.TheConstants.{MOST_GRACE_NOTES}
use Rattle.abc_marks_cells.specs.declared.written_mark.WrittenGrace.{WrittenGrace}
use Rattle.abc_marks_cells.specs.declared.written_mark.WrittenMark.{WrittenMark}
use Rattle.abc_marks_cells.specs.declared.written_mark.WrittenMark.TheVariants as marks

-- A part of this kind between braces, if it is a note.
abbrev pub grace_of : ℕ → ℕ → ChordPartKind → List WrittenGrace
grace_of from to (parts.Note note) = record { note = note; columns = record { from = from; to = to } } ∷ []
grace_of from to _ = []

-- A part between braces that begin at a column, if it is a note.
abbrev pub grace_at : ℕ → Spanned ChordPartKind → List WrittenGrace
grace_at from part = grace_of (from + part.from) (from + part.to) part.kind

-- The notes after one more part: no more than count.
abbrev pub with_grace : ℕ → List WrittenGrace → Spanned ChordPartKind → List WrittenGrace
with_grace from graces part = if nat_lt (length graces) MOST_GRACE_NOTES then graces ++ grace_at from part else graces

-- The notes after more parts, one after another.
abbrev pub graces_from : ℕ → List WrittenGrace → List (Spanned ChordPartKind) → List WrittenGrace
graces_from from graces [] = graces
graces_from from graces (part ∷ parts) = graces_from from (with_grace from graces part) parts

-- The notes among the parts between braces that begin at a column.
abbrev pub graces_in : ℕ → List (Spanned ChordPartKind) → List WrittenGrace
graces_in from parts = graces_from from [] parts

-- The mark of some notes, if there is one.
abbrev pub mark_of_graces : List WrittenGrace → Option WrittenMark
mark_of_graces graces = if length graces == 0 then None else Some (marks.GraceNotes graces)

-- The mark of a text between braces that begin at a column, which is read as the inside of a chord is. All but its notes is
-- skipped.
abbrev pub grace_mark : ℕ → List ℕ → Option WrittenMark
grace_mark from inside = mark_of_graces (graces_in from (parts_of inside))
