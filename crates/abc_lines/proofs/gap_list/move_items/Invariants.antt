use Rattle.std.proofs.Common.{◌≡◌, ◌+◌, ◌++◌, length}
use Rattle.abc_lines.proofs.gap_list.move_items.Given as goal

-- those that have moved and those that have not are together what there was
abbrev pub invariant-loop-block : goal.invariant-loop-block
invariant-loop-block g l =
    (l.block.items ++ l.from.items ≡ l.fn.from.items)
    × (l.block.gap ≡ length l.block.items)
    × (l.from.gap ≡ 0)
    × (length l.block.items + length l.from.items ≡ length l.fn.from.items)
    × (l.block.room + length l.block.items ≡ l.fn.block.room)

abbrev pub decreases-loop-block : goal.decreases-loop-block
decreases-loop-block g l = length l.from.items
