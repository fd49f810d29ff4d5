-- The sections of a tune, and which voice what is there belongs to. ABC 2.1 sections 3.1.9 and 7.
use Rattle.std.specs.Prelude.{ℕ, Bool, true, false, not, ◌&&◌, if◌then◌else◌, bytes_eq, List, [], ◌∷◌, ◌++◌, Option, Some, None}
use Rattle.std.specs.Prelude.{filter_map}
use Rattle.abc_bars_items.specs.declared.item.Item.{Item}
use Rattle.abc_bars_items.specs.declared.item.Item.TheVariants as items
use Rattle.abc_voices_sections.specs.Step.{itself}

-- What is played of a voice, and the marks that say how; what holds when the tune begins is not played.
abbrev pub is_step : Item → Bool
is_step (items.Tone tones length) = true
is_step (items.Rest length bar) = true
is_step (items.Bar line) = true
is_step (items.Ending numbers) = true
is_step (items.Tempo opening micros out) = not opening
is_step (items.Meter opening meter) = not opening
is_step (items.Key opening key) = not opening
is_step (items.Program opening number) = not opening
is_step _ = false

-- The letter of the section that begins after an item, if one does.
abbrev pub letter_of : Item → Option ℕ
letter_of (items.Section letter) = Some letter
letter_of _ = None

-- A section begins after an item with a letter.
abbrev pub is_section : Item → Bool
is_section (items.Section letter) = true
is_section _ = false

-- The letters of the sections after the opening one.
abbrev pub letters : List Item → List ℕ
letters tune = filter_map letter_of tune

-- The current voice after an item: a V: of the body makes its voice the current one.
abbrev pub voice_after : List ℕ → Item → List ℕ
voice_after voice (items.Voice false name) = name
voice_after voice _ = voice

-- A V: of the header declares its voice, and comes before others.
abbrev pub declared_or : List ℕ → Item → List ℕ
declared_or voice (items.Voice true name) = name
declared_or voice _ = voice

-- The current voice before the first V: of the body: the first declared one, or the one without a name. Not in ABC 2.1.
abbrev pub opening_voice : List Item → List ℕ
opening_voice [] = []
opening_voice (step ∷ tune) = declared_or (opening_voice tune) step

-- The sections of steps from one on that began in the voice `opening`. `held` has its steps so far, and `voice` is the current
-- voice. Each section has the voice in which it begins.
abbrev pub cut_from : {A : Type 0} → (A → Item) → List ℕ → List A → List ℕ → List A → List (List ℕ × List A)
cut_from item_of opening held voice [] = (opening, held) ∷ []
cut_from item_of opening held voice (step ∷ steps) =
    if is_section (item_of step) then (opening, held) ∷ cut_from item_of voice [] voice steps
    else cut_from item_of opening (held ++ step ∷ []) (voice_after voice (item_of step)) steps

-- The sections of steps, the opening one first, by the current voice before them.
abbrev pub cut : {A : Type 0} → (A → Item) → List ℕ → List A → List (List ℕ × List A)
cut item_of voice steps = cut_from item_of voice [] voice steps

-- The steps of a voice from a place on, at which `current` is the current voice.
abbrev pub own_steps : {A : Type 0} → (A → Item) → List ℕ → List ℕ → List A → List A
own_steps item_of voice current [] = []
own_steps item_of voice current (step ∷ steps) =
    if is_step (item_of step) && bytes_eq current voice then step ∷ own_steps item_of voice (voice_after current (item_of step)) steps
    else own_steps item_of voice (voice_after current (item_of step)) steps

-- The same of items alone.
abbrev pub sections_from : List ℕ → List Item → List ℕ → List Item → List (List ℕ × List Item)
sections_from opening steps voice tune = cut_from itself opening steps voice tune

abbrev pub part_from : List ℕ → List ℕ → List Item → List Item
part_from voice current steps = own_steps itself voice current steps

-- The sections of a tune, the opening one first.
abbrev pub sections : List Item → List (List ℕ × List Item)
sections tune = cut itself (opening_voice tune) tune

-- The steps of a voice in a section.
abbrev pub part : List ℕ → List ℕ × List Item → List Item
part voice (opening, steps) = part_from voice opening steps
