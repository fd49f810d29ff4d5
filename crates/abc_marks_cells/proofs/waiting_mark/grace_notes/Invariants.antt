use Rattle.std.proofs.Common.{◌≡◌, ◌++◌, drop, map}
use Rattle.std.specs.Prelude.{All}
use Rattle.abc_marks.specs.GraceNote.{IsGraceNote}
use Rattle.abc_marks_cells.specs.WaitingMark.{grace_note}
use Rattle.abc_marks_cells.proofs.waiting_mark.grace_notes.Given as goal

-- the notes so far, and those still to come
abbrev pub invariant-loop-written : goal.invariant-loop-written
invariant-loop-written l = record {
  value : l.notes ++ map (grace_note l.state) (drop l.written-index l.graces) ≡ map (grace_note l.state) l.graces;
  range : All IsGraceNote l.notes;
}
