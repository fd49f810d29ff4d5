-- The steps of a play: the items of a tune with their places, and the bar lines that are passed. Not in ABC 2.1.
use Rattle.std.specs.Prelude.{Bool, true, false, List, map, filter}
use Rattle.abc_bars_items.specs.declared.item.Item.{Item}
use Rattle.abc_repeat.specs.declared.mark.Mark.{Mark}
use Rattle.abc_voices_sections.specs.Step.{empty_field, mark_of}
use Rattle.abc_play_sections.specs.declared.step.PlayStep.{PlayStep}
use Rattle.abc_play_sections.specs.declared.step.PlayStep.TheVariants as steps

-- A step as an item. A bar line that is passed is played as a field would be.
abbrev pub as_item : PlayStep → Item
as_item (steps.Item item place) = item.now
as_item (steps.BarLine place) = empty_field

-- Whether a step is an item of its tune.
abbrev pub is_item : PlayStep → Bool
is_item (steps.Item item place) = true
is_item (steps.BarLine place) = false

-- The mark of a step in its section.
abbrev pub mark : PlayStep → Mark
mark step = mark_of (as_item step)

-- The steps that are items.
abbrev pub without_bar_lines : List PlayStep → List PlayStep
without_bar_lines steps = filter is_item steps

-- The items among steps.
abbrev pub items_among : List PlayStep → List Item
items_among steps = map as_item (without_bar_lines steps)
