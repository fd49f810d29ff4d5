-- What is done with steps is done with their items.
use Rattle.std.proofs.Common.{◌≡◌, ℕ, ◌+◌, zero, suc, max, true, false, cond, length, map, List, [], ◌∷◌, ◌++◌, refl, sym, ap, ◌∙◌}
use Rattle.std.specs.Borrow.{Bor}
use Rattle.std.specs.Prelude.{◌&&◌, bytes_eq, filter_map, slice_get, All}
use Rattle.std.specs.List.{cons_option}
use Rattle.std.proofs.lemmas.List.{map-append, length-map}
use Rattle.std.proofs.lemmas.List.Elements.{All-nil, All-cons}
use Rattle.std.proofs.lemmas.List.Sums.{sum_by-cons}
use Rattle.abc_bars_items.specs.declared.item.Item.{Item}
use Rattle.abc_bars_items.specs.declared.item.Item.TheVariants as items
use Rattle.abc_repeat.specs.Mark.{is_ending}
use Rattle.abc_repeat.specs.Play.{play_of}
use Rattle.abc_voices_sections.specs.declared.ending_fields.EndingRegion.{EndingRegion}
use Rattle.abc_voices_sections.specs.declared.ending_fields.EndingRegion.TheVariants.{Common}
use Rattle.abc_voices_sections.specs.AsItems.{section_as}
use Rattle.abc_voices_sections.specs.EndingFields.{waits, region_after, with_waiting, ordered_from, ordered, put_with_waiting, with_fields_in_endings_from}
use Rattle.abc_voices_sections.specs.Play.{marks, places, played, time_of, marks_of, places_of, played_items, duration}
use Rattle.abc_voices_sections.specs.PlayedSection.{steps_in, section_time, play_in, size_in, section_length}
use Rattle.abc_voices_sections.specs.Items.{items_of}
use Rattle.abc_voices_sections.specs.Section.{is_section, is_step, letter_of, letters, voice_after, opening_voice, own_steps, part_from, cut, cut_from, sections, sections_from}
use Rattle.abc_voices_sections.specs.Stage.{content, steps_at}
use Rattle.abc_voices_sections.specs.declared.section.Section.{Section}
use Rattle.abc_voices_sections.specs.Step.{mark_of, length_of}
use Rattle.abc_voices_sections.proofs.OneByOne.{as_many}

-- the steps of a voice
pub map-own_steps : {A : Type 0} (item_of : A → Item) (voice current : List ℕ) (own : List A)
    → map item_of (own_steps item_of voice current own) ≡ part_from voice current (map item_of own)
map-own_steps item_of voice current [] = refl
map-own_steps item_of voice current (step ∷ rest) =
    let item = item_of step in
    let next = voice_after current item in
    let seen = part_from voice next (map item_of rest) in
    elim (is_step item && bytes_eq current voice) as (λ b. map item_of (cond b (step ∷ own_steps item_of voice next rest) (own_steps item_of voice next rest)) ≡ cond b (item ∷ seen) seen) [
      | true ↦ ap (λ l. item ∷ l) (map-own_steps item_of voice next rest)
      | false ↦ map-own_steps item_of voice next rest
    ]

put_items : {A : Type 0} (item_of : A → Item) (held : List A) (step : A) → map item_of (with_waiting item_of held step) ≡ put_with_waiting (map item_of held) (item_of step)
put_items item_of held step =
    elim (is_ending (mark_of (item_of step))) as (λ b. map item_of (cond b (step ∷ held) (held ++ step ∷ [])) ≡ cond b (item_of step ∷ map item_of held) (map item_of held ++ item_of step ∷ [])) [
      | true ↦ refl
      | false ↦ map-append item_of held (step ∷ [])
    ]

-- their order
pub map-ordered_from : {A : Type 0} (item_of : A → Item) (region : EndingRegion) (held own : List A)
    → map item_of (ordered_from item_of region held own) ≡ with_fields_in_endings_from region (map item_of held) (map item_of own)
map-ordered_from item_of region held [] = refl
map-ordered_from item_of region held (step ∷ rest) =
    let next = region_after region (mark_of (item_of step)) in
    elim (waits region (item_of step)) as (λ b. map item_of (cond b (ordered_from item_of region (held ++ step ∷ []) rest) (with_waiting item_of held step ++ ordered_from item_of next [] rest))
    ≡ cond b (with_fields_in_endings_from region (map item_of held ++ item_of step ∷ []) (map item_of rest))
    (put_with_waiting (map item_of held) (item_of step) ++ with_fields_in_endings_from next [] (map item_of rest))) [
      | true ↦
          map-ordered_from item_of region (held ++ step ∷ []) rest
          ∙ ap (λ l. with_fields_in_endings_from region l (map item_of rest)) (map-append item_of held (step ∷ []))
      | false ↦
          map-append item_of (with_waiting item_of held step) (ordered_from item_of next [] rest)
          ∙ (λ i. put_items item_of held step i ++ map-ordered_from item_of next [] rest i)
    ]

one_item : {A B : Type 0} (item_of : A → B) (own : List A) (place : ℕ) (rest : List A)
    → map item_of (cons_option (slice_get own place) rest) ≡ cons_option (slice_get (map item_of own) place) (map item_of rest)
one_item item_of [] place rest = refl
one_item item_of (step ∷ own) zero rest = refl
one_item item_of (step ∷ own) (suc place) rest = one_item item_of own place rest

pub found_items : {A B : Type 0} (item_of : A → B) (own : List A) (those : List ℕ)
    → map item_of (filter_map (slice_get own) those) ≡ filter_map (slice_get (map item_of own)) those
found_items item_of own [] = refl
found_items item_of own (place ∷ those) =
    one_item item_of own place (filter_map (slice_get own) those)
    ∙ ap (cons_option (slice_get (map item_of own) place)) (found_items item_of own those)

marks_alike : {A : Type 0} (item_of : A → Item) (own : List A) → marks item_of own ≡ marks_of (map item_of own)
marks_alike item_of [] = refl
marks_alike item_of (step ∷ own) = ap (λ others. mark_of (item_of step) ∷ others) (marks_alike item_of own)

-- what is played of a voice's steps
pub map-played : {A : Type 0} (item_of : A → Item) (own : List A) → map item_of (played item_of own) ≡ played_items (map item_of own)
map-played item_of own =
    found_items item_of (ordered item_of own) (places item_of (ordered item_of own))
    ∙ ap (λ others. filter_map (slice_get (map item_of (ordered item_of own))) (play_of others)) (marks_alike item_of (ordered item_of own))
    ∙ ap (λ items. filter_map (slice_get items) (places_of items)) (map-ordered_from item_of Common [] own)

-- what a voice plays of a section
pub map-steps_in : {A : Type 0} (item_of : A → Item) (opening voice : List ℕ) (own : List A)
    → map item_of (steps_in item_of (opening, own) voice) ≡ play_in (opening, map item_of own) voice
map-steps_in item_of opening voice own =
    map-played item_of (own_steps item_of voice opening own) ∙ ap played_items (map-own_steps item_of voice opening own)

-- as many places as steps are played
pub size_in-play_in : (section : List ℕ × List Item) (voice : List ℕ) → length (play_in section voice) ≡ size_in section voice
size_in-play_in (opening, own) voice = as_many (λ item. item) (ordered (λ item. item) (part_from voice opening own))

-- their time
pub time_of-items : {A : Type 0} (item_of : A → Item) (own : List A) → time_of item_of own ≡ duration (map item_of own)
time_of-items item_of [] = refl
time_of-items item_of (step ∷ own) =
    sum_by-cons (λ one. length_of (item_of one)) step own
    ∙ ap (λ n. length_of (item_of step) + n) (time_of-items item_of own)
    ∙ sym (sum_by-cons length_of (item_of step) (map item_of own))

pub section_time-items : {A : Type 0} (item_of : A → Item) (voices : List (List ℕ)) (opening : List ℕ) (own : List A)
    → section_time item_of voices (opening, own) ≡ section_length voices (opening, map item_of own)
section_time-items item_of [] opening own = refl
section_time-items item_of (voice ∷ voices) opening own =
    λ i. max ((time_of-items item_of (steps_in item_of (opening, own) voice) ∙ ap duration (map-steps_in item_of opening voice own)) i) (section_time-items item_of voices opening own i)

-- the sections
pub map-cut_from : {A : Type 0} (item_of : A → Item) (opening : List ℕ) (held : List A) (voice : List ℕ) (own : List A)
    → map (section_as item_of) (cut_from item_of opening held voice own) ≡ sections_from opening (map item_of held) voice (map item_of own)
map-cut_from item_of opening held voice [] = refl
map-cut_from item_of opening held voice (step ∷ rest) =
    let item = item_of step in
    let next = voice_after voice item in
    elim (is_section item) as (λ b. map (section_as item_of) (cond b ((opening, held) ∷ cut_from item_of voice [] voice rest) (cut_from item_of opening (held ++ step ∷ []) next rest))
    ≡ cond b ((opening, map item_of held) ∷ sections_from voice [] voice (map item_of rest)) (sections_from opening (map item_of held ++ item ∷ []) next (map item_of rest))) [
      | true ↦ ap (λ l. (opening, map item_of held) ∷ l) (map-cut_from item_of voice [] voice rest)
      | false ↦
          map-cut_from item_of opening (held ++ step ∷ []) next rest
          ∙ ap (λ l. sections_from opening l next (map item_of rest)) (map-append item_of held (step ∷ []))
    ]

-- sections of items that are borrowed
pub each_content : (found : List (Section (Bor Item))) → map content found ≡ map (section_as (λ step. step.now)) (map steps_at found)
each_content [] = refl
each_content (section ∷ found) = ap (λ l. content section ∷ l) (each_content found)

pub are_sections : (found : List (Section (Bor Item))) (first : List ℕ) (tune : List (Bor Item)) → map steps_at found ≡ cut (λ step. step.now) first tune
    → first ≡ opening_voice (items_of tune) → map content found ≡ sections (items_of tune)
are_sections found first tune cuts opens =
    each_content found
    ∙ ap (map (section_as (λ step. step.now))) cuts
    ∙ map-cut_from (λ (step : Bor Item). step.now) first [] first tune
    ∙ ap (λ voice. sections_from voice [] voice (items_of tune)) opens

one_begins : (item : Item) (others : List ℕ) → cons_option (letter_of item) others ≡ [] → (is_section item ≡ false) × (others ≡ [])
one_begins (items.Section letter) others h = cc
one_begins _ others h = (refl, h)

-- no step of a tune without letters begins a section
pub none_begins : (tune : List (Bor Item)) → letters (items_of tune) ≡ [] → All (λ step. is_section step.now ≡ false) tune
none_begins [] none = All-nil (λ (step : Bor Item). is_section step.now ≡ false)
none_begins (step ∷ tune) none =
    let both = one_begins step.now (letters (items_of tune)) none in
    All-cons (λ (one : Bor Item). is_section one.now ≡ false) step tune both.0 (none_begins tune both.1)
