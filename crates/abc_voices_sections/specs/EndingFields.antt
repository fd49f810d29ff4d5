-- Fields between a bar that ended an ending and the next ending's sign are played with that ending. Not in ABC 2.1.
use Rattle.std.specs.Prelude.{Bool, true, false, not, ◌&&◌, ◌||◌, if◌then◌else◌, List, [], ◌∷◌, ◌++◌}
use Rattle.abc_bars_items.specs.declared.item.Item.{Item}
use Rattle.abc_repeat.specs.declared.mark.Mark.{Mark}
use Rattle.abc_repeat.specs.Mark.{is_ending, is_single, opens_next, closes_ending}
use Rattle.abc_voices_sections.specs.declared.ending_fields.EndingRegion.{EndingRegion}
use Rattle.abc_voices_sections.specs.declared.ending_fields.EndingRegion.TheVariants.{Common, Inside, AfterBar}
use Rattle.abc_voices_sections.specs.Step.{is_field, mark_of, itself}

-- What may be after an ending's bar before the sign of the next ending of the strain.
abbrev pub waits : EndingRegion → Item → Bool
waits AfterBar item = is_field item || is_single (mark_of item)
waits _ item = false

-- The region after a bar that ends an ending: a colon after it opens another strain.
abbrev pub after_bar : Mark → EndingRegion
after_bar bar = if opens_next bar then Common else AfterBar

-- The region after a mark that is no ending's sign and waits for none.
abbrev pub after_mark : EndingRegion → Mark → EndingRegion
after_mark Inside mark = if closes_ending mark then after_bar mark else Inside
after_mark _ mark = Common

-- The region after a mark that waits for none.
abbrev pub region_after : EndingRegion → Mark → EndingRegion
region_after region mark = if is_ending mark then Inside else after_mark region mark

-- Whether none of some steps waits for an ending's sign; the first is in this region.
abbrev pub nothing_waits : {A : Type 0} → (A → Item) → EndingRegion → List A → Bool
nothing_waits item_of region [] = true
nothing_waits item_of region (step ∷ steps) =
    not (waits region (item_of step)) && nothing_waits item_of (region_after region (mark_of (item_of step))) steps

-- An ending's sign goes before what has waited for it, anything else after it.
abbrev pub with_waiting : {A : Type 0} → (A → Item) → List A → A → List A
with_waiting item_of waiting step = if is_ending (mark_of (item_of step)) then step ∷ waiting else waiting ++ step ∷ []

-- The steps from a place on in the order of their play, after the steps `waiting`.
abbrev pub ordered_from : {A : Type 0} → (A → Item) → EndingRegion → List A → List A → List A
ordered_from item_of region waiting [] = waiting
ordered_from item_of region waiting (step ∷ steps) =
    if waits region (item_of step) then ordered_from item_of region (waiting ++ step ∷ []) steps
    else with_waiting item_of waiting step ++ ordered_from item_of (region_after region (mark_of (item_of step))) [] steps

-- The steps of a voice in a section, in the order in which repeats and endings play them.
abbrev pub ordered : {A : Type 0} → (A → Item) → List A → List A
ordered item_of steps = ordered_from item_of Common [] steps

-- The same of items alone.
abbrev pub put_with_waiting : List Item → Item → List Item
put_with_waiting waiting step = with_waiting itself waiting step

abbrev pub with_fields_in_endings_from : EndingRegion → List Item → List Item → List Item
with_fields_in_endings_from region waiting steps = ordered_from itself region waiting steps

abbrev pub with_fields_in_endings : List Item → List Item
with_fields_in_endings steps = ordered itself steps
