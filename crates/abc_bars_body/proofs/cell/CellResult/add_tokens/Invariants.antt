use Rattle.std.proofs.Common.{◌≡◌, length}
use Rattle.abc_bars_body.specs.Cell.{cell_result_from}
use Rattle.abc_bars_body.proofs.cell.CellResult.add_tokens.Given as goal

-- the tokens that are left
abbrev pub invariant-loop-left : goal.invariant-loop-left
invariant-loop-left l = cell_result_from l.self l.left ≡ cell_result_from l.fn.self l.cell

abbrev pub decreases-loop-left : goal.decreases-loop-left
decreases-loop-left l = length l.left
