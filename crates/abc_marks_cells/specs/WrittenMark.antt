-- Marks as lines spell them.
use Rattle.std.specs.Prelude.{◌≤◌, List, [], Option, Some, None, length}
use Rattle.abc_marks.specs.declared.grace_note.TheConstants.{MOST_GRACE_NOTES}
use Rattle.abc_marks_readers.specs.Harmony.{IsHarmony}
use Rattle.abc_marks_cells.specs.declared.written_mark.PlacedMark.{PlacedMark}
use Rattle.abc_marks_cells.specs.declared.written_mark.WrittenGrace.{WrittenGrace}
use Rattle.abc_marks_cells.specs.declared.written_mark.WrittenMark.{WrittenMark}
use Rattle.abc_marks_cells.specs.declared.written_mark.WrittenMark.TheVariants as marks

-- The written notes between two braces: at least one, and no more than count.
pub record AreWrittenGraces (graces : List WrittenGrace) : Type 0 where
  pub some : 1 ≤ length graces
  pub few : length graces ≤ MOST_GRACE_NOTES

-- What a written mark can hold.
abbrev pub IsWrittenMark : WrittenMark → Type 0
IsWrittenMark (marks.Harmony harmony) = IsHarmony harmony
IsWrittenMark (marks.GraceNotes graces) = AreWrittenGraces graces
IsWrittenMark _ = Unit {0}

abbrev pub IsPlacedMark : PlacedMark → Type 0
IsPlacedMark placed = IsWrittenMark placed.mark

-- The marks of a list, if there is one.
abbrev pub listed : Option (List PlacedMark) → List PlacedMark
listed None = []
listed (Some marks) = marks
