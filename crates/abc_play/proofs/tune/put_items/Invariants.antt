use Rattle.std.proofs.Common.{◌≡◌, ◌++◌, drop}
use Rattle.abc_voices_sections.specs.Items.{items_of}
use Rattle.abc_play.proofs.tune.put_items.Given as goal

-- the items so far, and the others
abbrev pub invariant-loop-item : goal.invariant-loop-item
invariant-loop-item l = items_of l.tune.items ++ drop l.item-index l.items ≡ items_of l.initial.tune.items ++ l.items
