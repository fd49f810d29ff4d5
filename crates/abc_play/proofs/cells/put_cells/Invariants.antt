use Rattle.std.proofs.Common.{◌≡◌, ◌++◌, drop, map}
use Rattle.abc_tune_compiler.specs.Placed.{placed_at}
use Rattle.abc_play.specs.Places.{placed_cell}
use Rattle.abc_play.proofs.cells.put_cells.Given as goal

-- the cells so far, and the others
abbrev pub invariant-loop-cell : goal.invariant-loop-cell
invariant-loop-cell l = map placed_cell l.cells.items ++ map (placed_at l.line) (drop l.cell-index l.row) ≡ map placed_cell l.initial.cells.items ++ map (placed_at l.line) l.row
