use Rattle.std.proofs.Common.{subst, sym, ap, ◌∙◌}
use Rattle.abc_scan.specs.Cell.{AreCells, cells_of}
use Rattle.abc_scan.proofs.CellLaws.{are_cells}
use Rattle.abc_scan.proofs.cell.cells.Goals as goal

pub returns-clause-cells : goal.returns-clause-cells
returns-clause-cells c =
    subst (AreCells c.args.tokens.now) (sym (c.in_ok-cells.ensures.value ∙ ap cells_of c.in_ok-copies.ensures)) (are_cells c.args.tokens.now)
