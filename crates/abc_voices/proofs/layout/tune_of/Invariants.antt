use Rattle.std.proofs.Common.{◌≡◌, ◌++◌, drop}
use Rattle.std.specs.Prelude.{All}
use Rattle.abc_bars_items.specs.Item.{IsItem}
use Rattle.abc_voices_sections.specs.Items.{items_of}
use Rattle.abc_voices.specs.Layout.{items_in}
use Rattle.abc_voices.proofs.layout.tune_of.Given as goal

-- the items so far, and those of the other cells
abbrev pub invariant-loop-one : goal.invariant-loop-one
invariant-loop-one l = record {
  items : items_of l.tune.items ++ items_in (drop l.one-index l.items) ≡ items_in l.items;
  range : All IsItem (items_of l.tune.items);
}
