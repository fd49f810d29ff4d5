use Rattle.std.proofs.Common.{refl, arith}
use Rattle.abc_lines.proofs.gap_list.move_items.Goals as goal

pub loop-block-init : goal.loop-block-init
loop-block-init g c =
    let none = c.requires.empty in
    rw c.move_gap.ensures (rw c.move_gap-2.ensures (rw none (refl, refl, refl, omega arith, omega arith)))
