-- The voice of an item, by looking back. ABC 2.1 section 7.
use Rattle.std.specs.Prelude.{◌≡◌, ℕ, Bool, true, false, ◌&&◌, if◌then◌else◌, bytes_eq, unwrap_or, List, [], ◌∷◌, map, filter}
use Rattle.std.specs.Prelude.{Option, Some, None}
use Rattle.std.specs.Option.{option_or}
use Rattle.abc_bars_items.specs.declared.item.Item.{Item}
use Rattle.abc_bars_items.specs.declared.item.Item.TheVariants as items
use Rattle.abc_voices_sections.specs.Section.{is_section, is_step, part, sections}

-- The voice that a V: of the body makes the current one.
abbrev pub named_by : Item → Option (List ℕ)
named_by (items.Voice false name) = Some name
named_by _ = None

-- The voice that a V: of the header declares.
abbrev pub declared_by : Item → Option (List ℕ)
declared_by (items.Voice true name) = Some name
declared_by _ = None

-- The first value that an item has, if one has any.
abbrev pub first_value : {V : Type 0} → (Item → Option V) → List Item → Option V
first_value value_of [] = None
first_value value_of (item ∷ others) = option_or (value_of item) (first_value value_of others)

-- The voice after the items `past` of a tune, the last one first: that of the last V: of the body. If there is none, it is the
-- first voice that the header declares, else the one without a name. The one without a name is not in ABC 2.1.
abbrev pub voice_at_place : List Item → List Item → List ℕ
voice_at_place tune past = unwrap_or (first_value named_by past) (unwrap_or (first_value declared_by tune) [])

-- The items of a tune after `past`, each with the items before it. Of `past` and of these the last item is first.
abbrev pub with_items_before : List Item → List Item → List (List Item × Item)
with_items_before past [] = []
with_items_before past (item ∷ rest) = (past, item) ∷ with_items_before (item ∷ past) rest

-- The same, each with the voice that it belongs to.
abbrev pub with_voices : List Item → List Item → List Item → List (List ℕ × Item)
with_voices tune past rest = map (λ one. (voice_at_place tune one.0, one.1)) (with_items_before past rest)

-- Something before the first of some lists.
abbrev pub put_in_front : {X : Type 0} → X → List (List X) → List (List X)
put_in_front x [] = (x ∷ []) ∷ []
put_in_front x (xs ∷ others) = (x ∷ xs) ∷ others

-- What is between the letters of sections.
abbrev pub pieces_between : {X : Type 0} → (X → Bool) → List X → List (List X)
pieces_between is_letter [] = [] ∷ []
pieces_between is_letter (x ∷ xs) =
    if is_letter x then [] ∷ pieces_between is_letter xs else put_in_front x (pieces_between is_letter xs)

-- What a voice has to play of items that are with their voices, and the marks that say how.
abbrev pub items_of_voice : List ℕ → List (List ℕ × Item) → List Item
items_of_voice voice placed = map (λ one. one.1) (filter (λ one. is_step one.1 && bytes_eq one.0 voice) placed)

-- What a voice has in the sections of a tune is, from letter to letter, each item that belongs to it.
abbrev pub AreOfVoices : Type 0
AreOfVoices = (tune : List Item) (voice : List ℕ)
    → map (part voice) (sections tune)
    ≡ map (items_of_voice voice) (pieces_between (λ one. is_section one.1) (with_voices tune [] tune))
