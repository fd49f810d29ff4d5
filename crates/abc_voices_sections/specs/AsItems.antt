-- Steps that are laid out, seen as the items that they are.
use Rattle.std.specs.Prelude.{◌≡◌, ℕ, List, map}
use Rattle.abc_bars_items.specs.declared.item.Item.{Item}
use Rattle.abc_voices_sections.specs.Stage.{stage_as, stage_in, stage_of}

-- A section of steps as one of items.
abbrev pub section_as : {A : Type 0} → (A → Item) → List ℕ × List A → List ℕ × List Item
section_as item_of (opening, own) = (opening, map item_of own)

-- The stage of a section of steps is, seen as items, the stage of the section of the items.
abbrev pub StagesAreOfItems : {A : Type 0} → (A → Item) → Type 0
StagesAreOfItems {A = A} item_of = (voices : List (List ℕ)) (section : List ℕ × List A)
    → stage_as item_of (stage_in item_of voices section) ≡ stage_of voices (section_as item_of section)
