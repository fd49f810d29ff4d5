-- The steps of a tune and of its sections. Not in ABC 2.1.
use Rattle.std.specs.Borrow.{Bor}
use Rattle.std.specs.Prelude.{ℕ, Bool, true, false, ◌+◌, if◌then◌else◌, List, [], ◌∷◌}
use Rattle.abc_bars_items.specs.declared.item.Item.{Item}
use Rattle.abc_bars_items.specs.declared.item.Item.TheVariants as items
use Rattle.abc_voices_sections.specs.Section.{cut_from}
use Rattle.abc_play_sections.specs.declared.step.PlayStep.{PlayStep}
use Rattle.abc_play_sections.specs.declared.step.PlayStep.TheVariants as steps
use Rattle.abc_play_sections.specs.Step.{as_item, items_among}

-- Whether an item is a bar line.
abbrev pub is_bar : Item → Bool
is_bar (items.Bar line) = true
is_bar _ = false

-- The passing of an item before other steps: a bar line is passed directly before it.
abbrev pub steps_with : ℕ → Item → List PlayStep → List PlayStep
steps_with place item others = if is_bar item then steps.BarLine place ∷ others else others

-- The steps of items, the first of which has this index in its tune.
abbrev pub steps_from : ℕ → List (Bor Item) → List PlayStep
steps_from place [] = []
steps_from place (item ∷ tune) = steps_with place item.now (steps.Item item place ∷ steps_from (place + 1) tune)

-- The sections of steps from one on that began in the voice `opening`. `held` has its steps so far, and `voice` is the
-- current voice.
abbrev pub sections_from : List ℕ → List PlayStep → List ℕ → List PlayStep → List (List ℕ × List PlayStep)
sections_from opening held voice own = cut_from as_item opening held voice own

-- A section without the bar lines that are passed.
abbrev pub without_places : List ℕ × List PlayStep → List ℕ × List Item
without_places (opening, own) = (opening, items_among own)
