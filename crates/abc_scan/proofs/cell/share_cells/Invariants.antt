use Rattle.std.proofs.Common.{◌≡◌, ◌≤◌, ◌++◌, ◌-◌, drop}
use Rattle.abc_scan.specs.Cell.{cells_of}
use Rattle.abc_scan.proofs.cell.share_cells.Given as goal

-- the cells so far, and those of the rest
abbrev pub invariant-loop-from : goal.invariant-loop-from
invariant-loop-from l = record {
  inside : l.from ≤ l.count;
  cells : l.cells.items ++ cells_of (drop l.from l.line) ≡ cells_of l.line;
}

abbrev pub decreases-loop-from : goal.decreases-loop-from
decreases-loop-from l = l.count - l.from
