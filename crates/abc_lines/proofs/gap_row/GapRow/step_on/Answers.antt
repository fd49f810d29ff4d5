use Rattle.abc_lines.proofs.GapRow.{full_after, free_before, stepped_on}
use Rattle.abc_lines.proofs.gap_row.GapRow.step_on.Goals as goal

pub read-item-requires : goal.read-item-requires
read-item-requires g c = full_after c.requires.gapped c.requires.following

pub write-requires : goal.write-requires
write-requires g c = free_before c.requires.gapped c.requires.following _ _ c.read-item.ensures

pub returns : goal.returns
returns g c = stepped_on c.requires.gapped c.requires.following _ _ c.read-item.ensures _ c.write.ensures
