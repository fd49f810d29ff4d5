-- What a voice plays of a section, and how long that takes. ABC 2.1 sections 4.8 to 4.10.
use Rattle.std.specs.Prelude.{ℕ, not, List, filter, map, sum_by, filter_map, slice_get}
use Rattle.abc_bars_items.specs.declared.item.Item.{Item}
use Rattle.abc_repeat.specs.declared.mark.Mark.{Mark}
use Rattle.abc_repeat.specs.Mark.{is_single}
use Rattle.abc_repeat.specs.Play.{play_of}
use Rattle.abc_voices_sections.specs.EndingFields.{ordered}
use Rattle.abc_voices_sections.specs.Step.{mark_of, length_of, itself}

-- The marks of steps.
abbrev pub marks : {A : Type 0} → (A → Item) → List A → List Mark
marks item_of steps = map (λ step. mark_of (item_of step)) steps

-- The places of what is played of steps that are in the order of their play.
abbrev pub places : {A : Type 0} → (A → Item) → List A → List ℕ
places item_of steps = play_of (marks item_of steps)

-- What is played of steps that are in the order of their play.
abbrev pub expanded : {A : Type 0} → (A → Item) → List A → List A
expanded item_of steps = filter_map (slice_get steps) (places item_of steps)

-- What is played of a voice's steps in a section, in order of play.
abbrev pub played : {A : Type 0} → (A → Item) → List A → List A
played item_of part = expanded item_of (ordered item_of part)

-- All steps but the bar lines that neither repeat nor are double.
abbrev pub without_single_bars : {A : Type 0} → (A → Item) → List A → List A
without_single_bars item_of steps = filter (λ step. not (is_single (mark_of (item_of step)))) steps

-- How many grains steps take one after another.
abbrev pub time_of : {A : Type 0} → (A → Item) → List A → ℕ
time_of item_of steps = sum_by (λ step. length_of (item_of step)) steps

-- The same of items alone.
abbrev pub marks_of : List Item → List Mark
marks_of steps = marks itself steps

abbrev pub places_of : List Item → List ℕ
places_of steps = places itself steps

abbrev pub played_items : List Item → List Item
played_items part = played itself part

abbrev pub duration : List Item → ℕ
duration steps = time_of itself steps
