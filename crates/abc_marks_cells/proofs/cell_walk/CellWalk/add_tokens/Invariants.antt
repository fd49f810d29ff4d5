use Rattle.std.proofs.Common.{◌≡◌, length}
use Rattle.std.specs.Prelude.{All}
use Rattle.abc_marks_cells.specs.CellWalk.{walked}
use Rattle.abc_marks_cells.specs.WrittenMark.{IsPlacedMark}
use Rattle.abc_marks_cells.proofs.cell_walk.CellWalk.add_tokens.Given as goal

-- the tokens that are left, with the marks that they spell
abbrev pub invariant-loop-left : goal.invariant-loop-left
invariant-loop-left l = record {
  value : walked l.self l.left l.written_left ≡ walked l.fn.self l.cell l.written;
  range : All IsPlacedMark l.written_left;
}

abbrev pub decreases-loop-left : goal.decreases-loop-left
decreases-loop-left l = length l.left
