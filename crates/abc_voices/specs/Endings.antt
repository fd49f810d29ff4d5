-- The fields that are played with the ending after them, by the strains. ABC 2.1 section 4.9; that fields are is not in
-- ABC 2.1.
use Rattle.std.specs.Prelude.{◌≡◌, Bool, true, false, not, ◌&&◌, ◌||◌, if◌then◌else◌, List, [], ◌∷◌, ◌++◌, map, filter, drop}
use Rattle.std.specs.Prelude.{get_or}
use Rattle.std.specs.List.{flat_map}
use Rattle.abc_bars_items.specs.declared.item.Item.{Item}
use Rattle.abc_repeat.specs.declared.mark.Mark.{Mark}
use Rattle.abc_repeat.specs.Mark.{is_ending, closes_ending}
use Rattle.abc_repeat.specs.Strain.{Ending, Strain, IsStrains}
use Rattle.abc_voices_sections.specs.EndingFields.{with_fields_in_endings}
use Rattle.abc_voices_sections.specs.Play.{marks_of}
use Rattle.abc_voices_sections.specs.Step.{is_field, mark_of}

-- The items that are no fields: their marks are what strains are made of.
abbrev pub without_fields : List Item → List Item
without_fields items = filter (λ item. not (is_field item)) items

-- Whether there is an ending.
abbrev pub has_ending : List Ending → Bool
has_ending [] = false
has_ending (ending ∷ endings) = true

-- For each mark of an ending's run, whether the bar that ends the ending is that mark or is before it.
abbrev pub past_its_bar : Bool → List Mark → List Bool
past_its_bar ended [] = []
past_its_bar ended (mark ∷ run) = (ended || closes_ending mark) ∷ past_its_bar (ended || closes_ending mark) run

-- For each mark of the endings of a strain, each sign before its run: whether it ends an ending that is not the last, or is
-- between such a bar and the next ending's sign.
abbrev pub between_endings : List Ending → List Bool
between_endings [] = []
between_endings (ending ∷ endings) =
    false ∷ (map (λ ended. ended && has_ending endings) (past_its_bar false ending.run) ++ between_endings endings)

-- The same for each mark of a strain: none of its common part does.
abbrev pub between_endings_of : Strain → List Bool
between_endings_of strain = map (λ mark. false) strain.common ++ between_endings strain.endings

-- The same for each mark of some strains.
abbrev pub between_endings_in : List Strain → List Bool
between_endings_in strains = flat_map between_endings_of strains

-- Each item, and whether it waits for an ending's sign. `between` is whether what precedes the first item waits; `others`, of
-- each mark that is no field, whether it waits. A field waits if the mark before it does.
abbrev pub with_waits : Bool → List Bool → List Item → List (Bool × Item)
with_waits between others [] = []
with_waits between others (item ∷ items) =
    (between && not (is_ending (mark_of item)), item)
    ∷ with_waits (if is_field item then between else get_or others 0 false) (if is_field item then others else drop 1 others) items

-- What waits, and these before it, after the first item that does not.
abbrev pub after_signs : List Item → List (Bool × Item) → List Item
after_signs waiting [] = waiting
after_signs waiting (one ∷ others) =
    if one.0 then after_signs (waiting ++ one.1 ∷ []) others
    else one.1 ∷ (waiting ++ after_signs [] others)

-- Let the marks of a voice's items in a section, without its fields, be any strains. Then the items between a bar that ended
-- an ending and the sign of the strain's next ending are put after that sign, and nothing else is moved.
abbrev pub MovesByStrains : Type 0
MovesByStrains = (part : List Item) (strains : List Strain)
    → IsStrains false (marks_of (without_fields part)) strains
    → with_fields_in_endings part ≡ after_signs [] (with_waits false (between_endings_in strains) part)
