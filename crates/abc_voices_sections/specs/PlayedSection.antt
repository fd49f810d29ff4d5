-- A section as one voice plays it: what, how many places, and how long. Not in ABC 2.1.
use Rattle.std.specs.Prelude.{ℕ, max, List, [], ◌∷◌, length}
use Rattle.abc_bars_items.specs.declared.item.Item.{Item}
use Rattle.abc_voices_sections.specs.EndingFields.{ordered}
use Rattle.abc_voices_sections.specs.Play.{places, played, time_of}
use Rattle.abc_voices_sections.specs.Section.{own_steps}
use Rattle.abc_voices_sections.specs.Step.{itself}

-- The steps of a voice in a section.
abbrev pub voice_steps : {A : Type 0} → (A → Item) → List ℕ → List ℕ × List A → List A
voice_steps item_of voice (opening, steps) = own_steps item_of voice opening steps

-- What a voice plays of a section.
abbrev pub steps_in : {A : Type 0} → (A → Item) → List ℕ × List A → List ℕ → List A
steps_in item_of section voice = played item_of (voice_steps item_of voice section)

-- How many steps of a section a voice plays.
abbrev pub count_in : {A : Type 0} → (A → Item) → List ℕ × List A → List ℕ → ℕ
count_in item_of section voice = length (steps_in item_of section voice)

-- How many places of a section a voice plays: as many.
abbrev pub places_in : {A : Type 0} → (A → Item) → List ℕ × List A → List ℕ → ℕ
places_in item_of section voice = length (places item_of (ordered item_of (voice_steps item_of voice section)))

-- How long a voice plays in a section.
abbrev pub time_in : {A : Type 0} → (A → Item) → List ℕ × List A → List ℕ → ℕ
time_in item_of section voice = time_of item_of (steps_in item_of section voice)

-- How long a section is: as long as the longest of its voices.
abbrev pub section_time : {A : Type 0} → (A → Item) → List (List ℕ) → List ℕ × List A → ℕ
section_time item_of [] section = 0
section_time item_of (voice ∷ voices) section = max (time_in item_of section voice) (section_time item_of voices section)

-- The same of items alone.
abbrev pub play_in : List ℕ × List Item → List ℕ → List Item
play_in section voice = steps_in itself section voice

abbrev pub size_in : List ℕ × List Item → List ℕ → ℕ
size_in section voice = places_in itself section voice

abbrev pub length_in : List ℕ × List Item → List ℕ → ℕ
length_in section voice = time_in itself section voice

abbrev pub section_length : List (List ℕ) → List ℕ × List Item → ℕ
section_length voices section = section_time itself voices section
