-- In which order the parts of a tune are played: the last order in its header. Not in ABC 2.1.
use Rattle.std.specs.Prelude.{◌≡◌, ℕ, List, length, filter_map, slice_get, Option, Some, None}
use Rattle.abc_bars_items.specs.declared.item.Item.{Item}
use Rattle.abc_bars_items.specs.declared.item.Item.TheVariants as items
use Rattle.abc_repeat.specs.Order.{sections_of, has_unknown}
use Rattle.abc_voices_sections.specs.Section.{letters, sections}
use Rattle.abc_voices.specs.Layout.{arranged_of, played_sections, sections_played}
use Rattle.abc_voices.specs.OnTicks.{last_value}

-- The order of the parts that an item sets, if it sets one: an accepted P: of the header does.
abbrev pub order_by : Item → Option (List ℕ)
order_by (items.Order text) = Some text
order_by _ = None

-- The places in a tune of the sections that are played: those of the last order that it sets, or all.
abbrev pub places_in_order : List Item → List ℕ
places_in_order tune = sections_of (last_value order_by tune) (letters tune)

-- These sections of a tune are played and counted, and a letter of that order is the one that may be unknown.
pub record IsInLastOrder (tune : List Item) : Type 0 where
  pub played : played_sections tune ≡ filter_map (slice_get (sections tune)) (places_in_order tune)
  pub counted : sections_played tune ≡ length (places_in_order tune)
  pub unknown : (arranged_of tune).unknown ≡ has_unknown (last_value order_by tune) (letters tune)

-- So for each tune.
abbrev pub AreInLastOrder : Type 0
AreInLastOrder = (tune : List Item) → IsInLastOrder tune
