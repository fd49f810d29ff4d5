-- The last order of a tune counts.
use Rattle.std.proofs.Common.{◌≡◌, ℕ, List, length, filter_map, Option, None, refl, ap}
use Rattle.std.specs.Prelude.{slice_get}
use Rattle.std.specs.Option.{option_or}
use Rattle.abc_bars_items.specs.declared.item.Item.{Item}
use Rattle.abc_bars_items.specs.declared.item.Item.TheVariants as items
use Rattle.abc_repeat.specs.Order.{sections_of, has_unknown}
use Rattle.abc_voices_sections.specs.Section.{letters, sections}
use Rattle.abc_voices.specs.Layout.{arranged_of}
use Rattle.abc_voices.specs.OnTicks.{last_value}
use Rattle.abc_voices.specs.Opening.{order_after, after_all}
use Rattle.abc_voices.specs.Orders.{order_by, AreInLastOrder}
use Rattle.abc_voices.proofs.OnTicks.{after_all-opens}

one_past : (order : Option (List ℕ)) (item : Item) → order_after order item ≡ option_or (order_by item) order
one_past order (items.Order text) = refl
one_past order _ = refl

last_order : (tune : List Item) → after_all order_after None tune ≡ last_value order_by tune
last_order tune = after_all-opens order_after order_by one_past tune

pub in_last_order : AreInLastOrder
unfolding arranged_of
in_last_order tune = record {
  played = ap (λ order. filter_map (slice_get (sections tune)) (sections_of order (letters tune))) (last_order tune);
  counted = ap (λ order. length (sections_of order (letters tune))) (last_order tune);
  unknown = ap (λ order. has_unknown order (letters tune)) (last_order tune);
}
