use Rattle.std.proofs.Common.{◌≡◌, ◌≤◌, length}
use Rattle.abc_marks.specs.declared.grace_note.TheConstants.{MOST_GRACE_NOTES}
use Rattle.abc_marks_cells.specs.GraceNotes.{graces_from, graces_in}
use Rattle.abc_marks_cells.proofs.grace_notes.graces_in.Given as goal

-- the parts that are left
abbrev pub invariant-loop-left : goal.invariant-loop-left
invariant-loop-left l = record {
  value : graces_from l.from l.graces l.left ≡ graces_in l.from l.parts;
  few : length l.graces ≤ MOST_GRACE_NOTES;
}

abbrev pub decreases-loop-left : goal.decreases-loop-left
decreases-loop-left l = length l.left
