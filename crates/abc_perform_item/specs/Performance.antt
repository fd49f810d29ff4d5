-- The items of a performance.
use Rattle.abc_bars_items.specs.Item.{IsItem}
use Rattle.abc_perform_item.specs.declared.performed.Performed.{Performed}

-- A performed item can hold what an item of a cell can.
pub record IsPerformed (performed : Performed) : Type 0 where
  pub item : IsItem performed.item
