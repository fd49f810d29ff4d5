use Rattle.std.proofs.Common.{◌≡◌, ◌++◌, drop, map}
use Rattle.std.specs.Borrow.{Bor}
use Rattle.std.specs.Prelude.{All}
use Rattle.abc_bars_items.specs.Item.{IsItem, Items}
use Rattle.abc_voices_sections.specs.Items.{items_of}
use Rattle.abc_voices.specs.Layout.{items_in}
use Rattle.abc_play.proofs.tune.tune_of.Given as goal

-- the items so far, and those of the other cells
abbrev pub invariant-loop-one : goal.invariant-loop-one
invariant-loop-one l = record {
  items : items_of l.tune.items ++ items_in (map (λ (one : Bor Items). one.now) (drop l.one-index l.given)) ≡ items_in (map (λ (one : Bor Items). one.now) l.given);
  range : All IsItem (items_of l.tune.items);
}
