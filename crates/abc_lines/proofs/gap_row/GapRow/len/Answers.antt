use Rattle.std.proofs.Common.{sym}
use Rattle.abc_lines.proofs.GapRow.{length-items_of}
use Rattle.abc_lines.proofs.gap_row.GapRow.len.Goals as goal

pub returns-clause-value : goal.returns-clause-value
returns-clause-value g c = sym (length-items_of c.requires)
