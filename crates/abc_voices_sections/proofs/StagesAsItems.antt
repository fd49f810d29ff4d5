-- The stages of steps are those of their items.
use Rattle.std.proofs.Common.{◌≡◌, ℕ, ◌+◌, length, map, List, [], ◌∷◌, refl, sym, ap, ◌∙◌}
use Rattle.std.specs.Borrow.{Bor}
use Rattle.std.specs.Prelude.{filter_map, slice_get, sum_by}
use Rattle.std.proofs.lemmas.List.{length-map}
use Rattle.std.proofs.lemmas.List.Sums.{sum_by-cons}
use Rattle.abc_bars_items.specs.declared.item.Item.{Item}
use Rattle.abc_voices_sections.specs.AsItems.{section_as}
use Rattle.abc_voices_sections.specs.Play.{duration}
use Rattle.abc_voices_sections.specs.PlayedSection.{steps_in, count_in, time_in, section_time, play_in, size_in, length_in, section_length}
use Rattle.abc_voices_sections.specs.Stage.{content, steps_at, part_in, stage_in, part_of, stage_of, part_as, stage_as}
use Rattle.abc_voices_sections.specs.Table.{sections_at}
use Rattle.abc_voices_sections.specs.declared.section.Section.{Section}
use Rattle.abc_voices_sections.proofs.AsItems.{map-steps_in, size_in-play_in, time_of-items, section_time-items, each_content, found_items}

-- how long a voice plays, and how many steps
pub time_in-items : {A : Type 0} (item_of : A → Item) (section : List ℕ × List A) (voice : List ℕ)
    → time_in item_of section voice ≡ length_in (section_as item_of section) voice
time_in-items item_of (opening, own) voice =
    time_of-items item_of (steps_in item_of (opening, own) voice) ∙ ap duration (map-steps_in item_of opening voice own)

pub count_in-items : {A : Type 0} (item_of : A → Item) (section : List ℕ × List A) (voice : List ℕ)
    → count_in item_of section voice ≡ size_in (section_as item_of section) voice
count_in-items item_of (opening, own) voice =
    sym (length-map (steps_in item_of (opening, own) voice) item_of)
    ∙ ap length (map-steps_in item_of opening voice own)
    ∙ size_in-play_in (opening, map item_of own) voice

-- its part
part_alike : {A : Type 0} (item_of : A → Item) (section : List ℕ × List A) (voice : List ℕ)
    → part_as item_of (part_in item_of section voice) ≡ part_of (section_as item_of section) voice
part_alike item_of (opening, own) voice =
    λ i. record { steps = map-steps_in item_of opening voice own i; length = record { 0 = time_in-items item_of (opening, own) voice i } }

parts_alike : {A : Type 0} (item_of : A → Item) (section : List ℕ × List A) (voices : List (List ℕ))
    → map (part_as item_of) (map (part_in item_of section) voices) ≡ map (part_of (section_as item_of section)) voices
parts_alike item_of section [] = refl
parts_alike item_of section (voice ∷ voices) = λ i. part_alike item_of section voice i ∷ parts_alike item_of section voices i

-- the stage of a section
pub stage_as-stage_in : {A : Type 0} (item_of : A → Item) (voices : List (List ℕ)) (section : List ℕ × List A)
    → stage_as item_of (stage_in item_of voices section) ≡ stage_of voices (section_as item_of section)
stage_as-stage_in item_of voices (opening, own) =
    λ i. record { parts = parts_alike item_of (opening, own) voices i; longest = record { 0 = section_time-items item_of voices opening own i } }

-- the stages of sections that are played
pub map-stage_as : {A : Type 0} (item_of : A → Item) (voices : List (List ℕ)) (played : List (List ℕ × List A))
    → map (stage_as item_of) (map (stage_in item_of voices) played) ≡ map (stage_of voices) (map (section_as item_of) played)
map-stage_as item_of voices [] = refl
map-stage_as item_of voices (section ∷ played) = λ i. stage_as-stage_in item_of voices section i ∷ map-stage_as item_of voices played i

counts_alike : {A : Type 0} (item_of : A → Item) (voices : List (List ℕ)) (section : List ℕ × List A)
    → sum_by (count_in item_of section) voices ≡ sum_by (size_in (section_as item_of section)) voices
counts_alike item_of [] section = refl
counts_alike item_of (voice ∷ voices) section =
    sum_by-cons (count_in item_of section) voice voices
    ∙ (λ i. count_in-items item_of section voice i + counts_alike item_of voices section i)
    ∙ sym (sum_by-cons (size_in (section_as item_of section)) voice voices)

-- how many steps they have
pub sum_by-counts : {A : Type 0} (item_of : A → Item) (voices : List (List ℕ)) (played : List (List ℕ × List A))
    → sum_by (λ section. sum_by (count_in item_of section) voices) played ≡ sum_by (λ section. sum_by (size_in section) voices) (map (section_as item_of) played)
sum_by-counts item_of voices [] = refl
sum_by-counts item_of voices (section ∷ played) =
    sum_by-cons (λ one. sum_by (count_in item_of one) voices) section played
    ∙ (λ i. counts_alike item_of voices section i + sum_by-counts item_of voices played i)
    ∙ sym (sum_by-cons (λ one. sum_by (size_in one) voices) (section_as item_of section) (map (section_as item_of) played))

-- how long they are
pub sum_by-times : {A : Type 0} (item_of : A → Item) (voices : List (List ℕ)) (played : List (List ℕ × List A))
    → sum_by (section_time item_of voices) played ≡ sum_by (section_length voices) (map (section_as item_of) played)
sum_by-times item_of voices [] = refl
sum_by-times item_of voices ((opening, own) ∷ played) =
    sum_by-cons (section_time item_of voices) (opening, own) played
    ∙ (λ i. section_time-items item_of voices opening own i + sum_by-times item_of voices played i)
    ∙ sym (sum_by-cons (section_length voices) (opening, map item_of own) (map (section_as item_of) played))

-- the sections at some places, of items that are borrowed
pub sections_at-content : (found : List (Section (Bor Item))) (places : List ℕ)
    → map (section_as (λ step. step.now)) (sections_at found places) ≡ filter_map (slice_get (map content found)) places
sections_at-content found places =
    found_items (section_as (λ (step : Bor Item). step.now)) (map steps_at found) places
    ∙ ap (λ sections. filter_map (slice_get sections) places) (sym (each_content found))
