use Rattle.std.proofs.Common.{arith}
use Rattle.abc_lines.proofs.GapRow.{length-items_of, put_in}
use Rattle.abc_lines.proofs.gap_row.GapRow.put.Goals as goal

pub returns-clause-put : goal.returns-clause-put
returns-clause-put g c = put_in c.requires.gapped c.requires.room c.args.item _ c.write.ensures

pub returns-clause-inside : goal.returns-clause-inside
returns-clause-inside g c = omega (arith, length-items_of c.requires.gapped, c.requires.gapped.before, c.requires.gapped.count)
