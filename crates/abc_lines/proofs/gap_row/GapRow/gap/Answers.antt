use Rattle.std.proofs.Common.{arith}
use Rattle.abc_lines.proofs.GapRow.{length-items_of}
use Rattle.abc_lines.proofs.gap_row.GapRow.gap.Goals as goal

pub returns-clause-inside : goal.returns-clause-inside
returns-clause-inside g c = omega (arith, length-items_of c.requires, c.requires.before, c.requires.count)
