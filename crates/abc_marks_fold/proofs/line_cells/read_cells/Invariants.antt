use Rattle.std.proofs.Common.{◌≡◌, ◌++◌, drop, map}
use Rattle.abc_marks_fold.specs.LineCells.{read_cell}
use Rattle.abc_marks_fold.proofs.line_cells.read_cells.Given as goal

-- the cells so far, and those still to come
abbrev pub invariant-loop-cell : goal.invariant-loop-cell
invariant-loop-cell l = l.made.items ++ map (read_cell l.line) (drop l.cell-index l.cells) ≡ map (read_cell l.line) l.cells
