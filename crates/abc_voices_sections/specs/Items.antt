-- The steps of a tune, seen as the items that they are.
use Rattle.std.specs.Borrow.{Bor}
use Rattle.std.specs.Prelude.{List, map}
use Rattle.abc_bars_items.specs.declared.item.Item.{Item}

-- The items of steps.
abbrev pub items_of : List (Bor Item) → List Item
items_of steps = map (λ step. step.now) steps
