-- The stages of a tune in a table: at a section's place what the voices play of it, or none. Not in ABC 2.1.
use Rattle.std.specs.Prelude.{◌≡◌, ℕ, ◌+◌, ◌≤◌, List, Option, Some, None, All, length, map, sum_by, filter_map, slice_get}
use Rattle.std.specs.Prelude.{slice_index_or, slice_set, option_map}
use Rattle.abc_bars_items.specs.declared.item.Item.{Item}
use Rattle.abc_repeat.specs.declared.play.TheConstants.{MOST_PLACES}
use Rattle.abc_voices_sections.specs.declared.section.Section.{Section}
use Rattle.abc_voices_sections.specs.declared.stage.Stage.{Stage}
use Rattle.abc_voices_sections.specs.PlayedSection.{count_in, section_time}
use Rattle.abc_voices_sections.specs.Stage.{steps_at, stage_in, stage_size}

-- The stage at a place of a table, if one is there.
abbrev pub stage_at : {A : Type 0} → List (Option (Stage A)) → ℕ → Option (Stage A)
stage_at table place = slice_index_or table place None

-- The stages at these places of a table, in this order.
abbrev pub at_places : {A : Type 0} → List (Option (Stage A)) → List ℕ → List (Stage A)
at_places table places = filter_map (stage_at table) places

-- The sections at some places, in this order.
abbrev pub sections_at : {A : Type 0} → List (Section A) → List ℕ → List (List ℕ × List A)
sections_at sections places = filter_map (slice_get (map steps_at sections)) places

-- The stage that the section at a place has.
abbrev pub stage_for : {A : Type 0} → (A → Item) → List (List ℕ) → List (Section A) → ℕ → Option (Stage A)
stage_for item_of voices sections place = option_map (λ section. stage_in item_of voices (steps_at section)) (slice_get sections place)

-- A number of what there is, 0 of nothing.
abbrev pub number_of : {A : Type 0} → (A → ℕ) → Option A → ℕ
number_of number None = 0
number_of number (Some value) = number value

-- How many places the voices play of the section at a place.
abbrev pub size_for : {A : Type 0} → (A → Item) → List (List ℕ) → List (Section A) → ℕ → ℕ
size_for item_of voices sections place =
    number_of (λ section. sum_by (count_in item_of (steps_at section)) voices) (slice_get sections place)

-- How long the section at a place is.
abbrev pub length_for : {A : Type 0} → (A → Item) → List (List ℕ) → List (Section A) → ℕ → ℕ
length_for item_of voices sections place =
    number_of (λ section. section_time item_of voices (steps_at section)) (slice_get sections place)

-- The stage at a place is that of the section there.
pub record IsStageAt {A : Type 0} (item_of : A → Item) (voices : List (List ℕ)) (sections : List (Section A)) (place : ℕ) (stage : Stage A) : Type 0 where
  pub value : stage_for item_of voices sections place ≡ Some stage
  pub size : stage_size stage ≡ size_for item_of voices sections place
  pub few : stage_size stage ≤ MOST_PLACES

-- Each stage of the table is that of the section at its place.
pub record AreStages {A : Type 0} (item_of : A → Item) (voices : List (List ℕ)) (sections : List (Section A)) (table : List (Option (Stage A))) : Type 0 where
  pub each : (place : ℕ) (stage : Stage A) → stage_at table place ≡ Some stage → IsStageAt item_of voices sections place stage

-- The stage of a section is put at a place, and is small enough.
pub record IsNew {A : Type 0} (item_of : A → Item) (voices : List (List ℕ)) (section : Section A) (place : ℕ) (before after : List (Option (Stage A))) : Type 0 where
  pub put : after ≡ slice_set before place (Some (stage_in item_of voices (steps_at section)))
  pub size : stage_size (stage_in item_of voices (steps_at section)) ≡ sum_by (count_in item_of (steps_at section)) voices
  pub few : stage_size (stage_in item_of voices (steps_at section)) ≤ MOST_PLACES

-- The stage of the section at a place is in the table, with those that were there before.
pub record IsPut {A : Type 0} (item_of : A → Item) (voices : List (List ℕ)) (sections : List (Section A)) (place : ℕ) (before after : List (Option (Stage A))) : Type 0 where
  pub are : AreStages item_of voices sections after
  pub here : stage_at after place ≡ stage_for item_of voices sections place
  pub there : (other : ℕ) → stage_at before other ≡ stage_for item_of voices sections other
      → stage_at after other ≡ stage_for item_of voices sections other

-- The stages of the sections at some places are in the table, and after their play this much room is left.
pub record ArePut {A : Type 0} (item_of : A → Item) (voices : List (List ℕ)) (sections : List (Section A)) (places : List ℕ) (room : ℕ)
    (table : List (Option (Stage A))) : Type 0 where
  pub long : length table ≡ length sections
  pub are : AreStages item_of voices sections table
  pub here : All (λ place. stage_at table place ≡ stage_for item_of voices sections place) places
  pub fits : room + sum_by (size_for item_of voices sections) places ≡ MOST_PLACES
