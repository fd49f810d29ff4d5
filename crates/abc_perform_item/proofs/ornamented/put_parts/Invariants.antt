use Rattle.std.proofs.Common.{◌≡◌, ◌++◌, drop}
use Rattle.abc_perform_item.specs.Ornamented.{part_items}
use Rattle.abc_perform_item.proofs.ornamented.put_parts.Given as goal

abbrev pub invariant-loop-index : goal.invariant-loop-index
invariant-loop-index l =
    l.performance ++ part_items l.change l.tone l.item (drop l.index l.parts)
    ≡ l.initial.performance ++ part_items l.change l.tone l.item l.parts
