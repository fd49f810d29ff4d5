use Rattle.abc_lines.proofs.GapRow.{full_before, free_after, stepped_back}
use Rattle.abc_lines.proofs.gap_row.GapRow.step_back.Goals as goal

pub read-item-requires : goal.read-item-requires
read-item-requires g c = full_before c.requires.gapped c.requires.before

pub write-requires : goal.write-requires
write-requires g c = free_after c.requires.gapped c.requires.before _ _ c.read-item.ensures

pub returns : goal.returns
returns g c = stepped_back c.requires.gapped c.requires.before _ _ c.read-item.ensures _ c.write.ensures
