-- What belongs to a voice, by whether it is the current one.
use Rattle.std.specs.Prelude.{ℕ, Bool, false, ◌&&◌, if◌then◌else◌, bytes_eq, List, [], ◌∷◌}
use Rattle.abc_bars_items.specs.declared.item.Item.{Item}
use Rattle.abc_bars_items.specs.declared.item.Item.TheVariants as items
use Rattle.abc_voices_sections.specs.Section.{is_step}

-- Whether a voice is the current one after an item, by whether it is before it.
abbrev pub is_own_after : List ℕ → Bool → Item → Bool
is_own_after voice own (items.Voice false name) = bytes_eq name voice
is_own_after voice own _ = own

-- The steps of a voice from a place on, by whether it is the current voice there.
abbrev pub own_from : {A : Type 0} → (A → Item) → List ℕ → Bool → List A → List A
own_from item_of voice own [] = []
own_from item_of voice own (step ∷ steps) =
    if own && is_step (item_of step) then step ∷ own_from item_of voice (is_own_after voice own (item_of step)) steps
    else own_from item_of voice (is_own_after voice own (item_of step)) steps
