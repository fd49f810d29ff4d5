use Rattle.abc_live_text.proofs.ScanCounts.{scanned_once}
use Rattle.abc_live_text.proofs.row.read_line.Goals as goal

pub returns-in_err-cells-clause-counted : goal.returns-in_err-cells-clause-counted
returns-in_err-cells-clause-counted g c = scanned_once _ _ c.cells.ensures.counted

pub returns-in_err-cells-2-clause-counted : goal.returns-in_err-cells-2-clause-counted
returns-in_err-cells-2-clause-counted g c = scanned_once _ _ c.cells.ensures.counted

pub returns-clause-counted : goal.returns-clause-counted
returns-clause-counted g c = scanned_once _ _ c.cells.ensures.counted
