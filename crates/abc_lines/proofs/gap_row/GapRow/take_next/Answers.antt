use Rattle.abc_lines.proofs.GapRow.{full_after, taken, took}
use Rattle.abc_lines.proofs.gap_row.GapRow.take_next.Goals as goal

pub read-item-requires : goal.read-item-requires
read-item-requires g c = full_after c.requires.gapped c.requires.following

pub returns-clause-taken : goal.returns-clause-taken
returns-clause-taken g c = taken c.requires.gapped c.requires.following _ _ c.read-item.ensures

pub returns-clause-left : goal.returns-clause-left
returns-clause-left g c = took c.requires.gapped c.requires.following _ _ c.read-item.ensures
