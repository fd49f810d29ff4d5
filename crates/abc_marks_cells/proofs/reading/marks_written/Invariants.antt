use Rattle.std.proofs.Common.{◌≡◌, ◌++◌, length}
use Rattle.std.specs.Prelude.{All, flat_map}
use Rattle.abc_marks_cells.specs.Reading.{marks_at, marks_written}
use Rattle.abc_marks_cells.specs.WrittenMark.{IsPlacedMark}
use Rattle.abc_marks_cells.proofs.reading.marks_written.Given as goal

-- the marks so far, and those of the tokens that are left
abbrev pub invariant-loop-left : goal.invariant-loop-left
invariant-loop-left l = record {
  value : l.marks ++ flat_map (marks_at l.line) l.left ≡ marks_written l.line l.cell;
  range : All IsPlacedMark l.marks;
}

abbrev pub decreases-loop-left : goal.decreases-loop-left
decreases-loop-left l = length l.left
