use Rattle.std.proofs.Common.{◌≡◌, ◌+◌, length}
use Rattle.std.specs.Vec.Iter.{into_iter_items}
use Rattle.abc_lines.specs.GapList.{replaced_run}
use Rattle.abc_lines.proofs.gap_list.GapList.put_all.Given as goal

-- with those that are still to come at the gap, it is what it will be
abbrev pub invariant-loop-item : goal.invariant-loop-item
invariant-loop-item g l =
    (replaced_run l.self-inside.block.items l.self-inside.block.gap 0 (into_iter_items l.item-iterator) ≡ replaced_run l.fn.self.items l.fn.self.gap 0 l.fn.items.items)
    × (l.self-inside.block.gap + length (into_iter_items l.item-iterator) ≡ l.fn.self.gap + length l.fn.items.items)
    × (l.self-inside.block.room + length l.fn.items.items ≡ l.fn.self.room + length (into_iter_items l.item-iterator))
    × (l.self-inside.moved ≡ l.fn.self.moved)
