-- A play does not depend on where the items of its tune are in memory.
use Rattle.std.proofs.Common.{◌≡◌, ℕ, zero, suc, ◌+◌, true, false, cond, List, [], ◌∷◌, ◌++◌, length, map, None, refl, sym, ap, ◌∙◌}
use Rattle.std.specs.Borrow.{Bor}
use Rattle.std.specs.List.{cons_option}
use Rattle.std.specs.Prelude.{◌&&◌, bytes_eq, max, filter_map, slice_get, sum_by}
use Rattle.std.proofs.lemmas.List.{length-map, map-append}
use Rattle.std.proofs.lemmas.List.Sums.{sum_by-cons}
use Rattle.abc_bars_items.specs.declared.item.Item.{Item}
use Rattle.abc_bars_items.specs.declared.item.Tone.{Tone}
use Rattle.abc_repeat.specs.Mark.{is_ending}
use Rattle.abc_repeat.specs.Order.{sections_of}
use Rattle.abc_repeat.specs.Play.{play_of}
use Rattle.abc_voices.specs.Opening.{order_after, after_all}
use Rattle.abc_voices.specs.Track.{tracks, voice_names}
use Rattle.abc_voices_sections.specs.EndingFields.{waits, region_after}
use Rattle.abc_voices_sections.specs.declared.ending_fields.EndingRegion.{EndingRegion}
use Rattle.abc_voices_sections.specs.declared.ending_fields.EndingRegion.TheVariants.{Common}
use Rattle.abc_voices_sections.specs.Items.{items_of}
use Rattle.abc_voices_sections.specs.Section.{is_section, is_step, letters, opening_voice, voice_after}
use Rattle.abc_voices_sections.specs.Step.{length_of, mark_of, tones_of}
use Rattle.abc_play_sections.specs.declared.step.PlayStep.{PlayStep}
use Rattle.abc_play_sections.specs.declared.step.PlayStep.TheVariants as steps
use Rattle.abc_play_sections.specs.Order.{in_order, in_order_from, put_with_waiting}
use Rattle.abc_play_sections.specs.Play.{expanded, part_from, steps_in}
use Rattle.abc_play_sections.specs.Step.{as_item, mark}
use Rattle.abc_play_tune.specs.Entries.{entries_from, previous_after, step_entries}
use Rattle.abc_play_tune.specs.Play.{counted_voices, play_of_voice, played_sections, step_sections, steps_played}
use Rattle.abc_play_tune.specs.Stage.{section_time, size_in, time_of}
use Rattle.abc_play_tune.specs.Steps.{is_bar, sections_from, steps_from}
use Rattle.abc_play_tune.specs.Timed.{timed_from, timed_in}
use Rattle.abc_play_tune.specs.declared.timed.TimedStep.{TimedStep}
use Rattle.abc_play.specs.Play.{placed_entry, placed_track, referred, tune_play}
use Rattle.abc_play.specs.declared.place.Place.{Place}

-- a step, a section and a timed step that refer to their items so
abbrev by_item : PlayStep → PlayStep
by_item (steps.Item item place) = steps.Item (referred item.now) place
by_item (steps.BarLine place) = steps.BarLine place

abbrev section_by_item : List ℕ × List PlayStep → List ℕ × List PlayStep
section_by_item (opening, own) = (opening, map by_item own)

abbrev timed_by_item : TimedStep → TimedStep
timed_by_item timed = record { at = timed.at; step = by_item timed.step }

abbrev step_at : ℕ → PlayStep → TimedStep
step_at at step = record { at = record { 0 = at }; step = step }

same_item : (step : PlayStep) → as_item (by_item step) ≡ as_item step
same_item (steps.Item item place) = refl
same_item (steps.BarLine place) = refl

-- the items of a tune that refers to its items so
same_items : (tune : List (Bor Item)) → items_of (map referred (items_of tune)) ≡ items_of tune
same_items [] = refl
same_items (item ∷ tune) = ap (λ l. item.now ∷ l) (same_items tune)

-- its steps
steps_alike : (place : ℕ) (tune : List (Bor Item)) → steps_from place (map referred (items_of tune)) ≡ map by_item (steps_from place tune)
steps_alike place [] = refl
steps_alike place (item ∷ tune) =
    let own = steps.Item item place ∷ steps_from (place + 1) tune in
    let others = steps.Item (referred item.now) place ∷ steps_from (place + 1) (map referred (items_of tune)) in
    let rest : others ≡ map by_item own = ap (λ l. steps.Item (referred item.now) place ∷ l) (steps_alike (place + 1) tune) in
    elim (is_bar item.now) as (λ b. cond b (steps.BarLine place ∷ others) others ≡ map by_item (cond b (steps.BarLine place ∷ own) own)) [
      | true ↦ ap (λ l. steps.BarLine place ∷ l) rest
      | false ↦ rest
    ]

-- its sections
sections_alike : (opening : List ℕ) (held : List PlayStep) (voice : List ℕ) (own : List PlayStep)
    → sections_from opening (map by_item held) voice (map by_item own) ≡ map section_by_item (sections_from opening held voice own)
sections_alike opening held voice [] = refl
sections_alike opening held voice (step ∷ others) =
    let seen = map by_item others in
    ap (λ (item : Item). cond (is_section item) ((opening, map by_item held) ∷ sections_from voice [] voice seen)
    (sections_from opening (map by_item held ++ by_item step ∷ []) (voice_after voice item) seen)) (same_item step)
    ∙ elim (is_section (as_item step)) as (λ b. cond b ((opening, map by_item held) ∷ sections_from voice [] voice seen)
    (sections_from opening (map by_item held ++ by_item step ∷ []) (voice_after voice (as_item step)) seen)
    ≡ map section_by_item (cond b ((opening, held) ∷ sections_from voice [] voice others) (sections_from opening (held ++ step ∷ []) (voice_after voice (as_item step)) others))) [
      | true ↦ ap (λ l. (opening, map by_item held) ∷ l) (sections_alike voice [] voice others)
      | false ↦
          ap (λ l. sections_from opening l (voice_after voice (as_item step)) seen) (sym (map-append by_item held (step ∷ [])))
          ∙ sections_alike opening (held ++ step ∷ []) (voice_after voice (as_item step)) others
    ]

-- the steps of a voice
part_alike : (voice current : List ℕ) (own : List PlayStep) → part_from voice current (map by_item own) ≡ map by_item (part_from voice current own)
part_alike voice current [] = refl
part_alike voice current (step ∷ others) =
    let seen = map by_item others in
    let next = voice_after current (as_item step) in
    ap (λ (item : Item). cond (is_step item && bytes_eq current voice) (by_item step ∷ part_from voice (voice_after current item) seen)
    (part_from voice (voice_after current item) seen)) (same_item step)
    ∙ elim (is_step (as_item step) && bytes_eq current voice) as (λ b. cond b (by_item step ∷ part_from voice next seen) (part_from voice next seen)
    ≡ map by_item (cond b (step ∷ part_from voice next others) (part_from voice next others))) [
      | true ↦ ap (λ l. by_item step ∷ l) (part_alike voice next others)
      | false ↦ part_alike voice next others
    ]

put_alike : (held : List PlayStep) (step : PlayStep) → put_with_waiting (map by_item held) (by_item step) ≡ map by_item (put_with_waiting held step)
put_alike held step =
    ap (λ (item : Item). cond (is_ending (mark_of item)) (by_item step ∷ map by_item held) (map by_item held ++ by_item step ∷ [])) (same_item step)
    ∙ elim (is_ending (mark step)) as (λ b. cond b (by_item step ∷ map by_item held) (map by_item held ++ by_item step ∷ []) ≡ map by_item (cond b (step ∷ held) (held ++ step ∷ []))) [
      | true ↦ refl
      | false ↦ sym (map-append by_item held (step ∷ []))
    ]

-- their order
order_alike : (region : EndingRegion) (held own : List PlayStep)
    → in_order_from region (map by_item held) (map by_item own) ≡ map by_item (in_order_from region held own)
order_alike region held [] = refl
order_alike region held (step ∷ others) =
    let seen = map by_item others in
    let next = region_after region (mark step) in
    ap (λ (item : Item). cond (waits region item) (in_order_from region (map by_item held ++ by_item step ∷ []) seen)
    (put_with_waiting (map by_item held) (by_item step) ++ in_order_from (region_after region (mark_of item)) [] seen)) (same_item step)
    ∙ elim (waits region (as_item step)) as (λ b. cond b (in_order_from region (map by_item held ++ by_item step ∷ []) seen)
    (put_with_waiting (map by_item held) (by_item step) ++ in_order_from next [] seen)
    ≡ map by_item (cond b (in_order_from region (held ++ step ∷ []) others) (put_with_waiting held step ++ in_order_from next [] others))) [
      | true ↦
          ap (λ l. in_order_from region l seen) (sym (map-append by_item held (step ∷ [])))
          ∙ order_alike region (held ++ step ∷ []) others
      | false ↦
          (λ i. put_alike held step i ++ order_alike next [] others i)
          ∙ sym (map-append by_item (put_with_waiting held step) (in_order_from next [] others))
    ]

one_alike : (own : List PlayStep) (place : ℕ) (rest : List PlayStep) → map by_item (cons_option (slice_get own place) rest) ≡ cons_option (slice_get (map by_item own) place) (map by_item rest)
one_alike [] place rest = refl
one_alike (step ∷ own) zero rest = refl
one_alike (step ∷ own) (suc place) rest = one_alike own place rest

found_alike : (own : List PlayStep) (places : List ℕ) → filter_map (slice_get (map by_item own)) places ≡ map by_item (filter_map (slice_get own) places)
found_alike own [] = refl
found_alike own (place ∷ places) =
    ap (cons_option (slice_get (map by_item own) place)) (found_alike own places)
    ∙ sym (one_alike own place (filter_map (slice_get own) places))

marks_alike : (own : List PlayStep) → map mark (map by_item own) ≡ map mark own
marks_alike [] = refl
marks_alike (step ∷ own) = (λ i. mark_of (same_item step i) ∷ marks_alike own i)

expanded_alike : (own : List PlayStep) → expanded (map by_item own) ≡ map by_item (expanded own)
expanded_alike own =
    ap (λ marks. filter_map (slice_get (map by_item own)) (play_of marks)) (marks_alike own)
    ∙ found_alike own (play_of (map mark own))

-- what a voice plays of a section
steps_in-alike : (section : List ℕ × List PlayStep) (voice : List ℕ) → steps_in (section_by_item section) voice ≡ map by_item (steps_in section voice)
steps_in-alike (opening, own) voice =
    ap (λ l. expanded (in_order l)) (part_alike voice opening own)
    ∙ ap expanded (order_alike Common [] (part_from voice opening own))
    ∙ expanded_alike (in_order (part_from voice opening own))

time_alike : (own : List PlayStep) → time_of (map by_item own) ≡ time_of own
time_alike [] = refl
time_alike (step ∷ own) =
    sum_by-cons (λ s. length_of (as_item s)) (by_item step) (map by_item own)
    ∙ (λ i. length_of (same_item step i) + time_alike own i)
    ∙ sym (sum_by-cons (λ s. length_of (as_item s)) step own)

section_time-alike : (voices : List (List ℕ)) (section : List ℕ × List PlayStep) → section_time voices (section_by_item section) ≡ section_time voices section
section_time-alike [] section = refl
section_time-alike (voice ∷ voices) section =
    ap (λ l. max (time_of l) (section_time voices (section_by_item section))) (steps_in-alike section voice)
    ∙ (λ i. max (time_alike (steps_in section voice) i) (section_time-alike voices section i))

-- how much is played
size_alike : (section : List ℕ × List PlayStep) (voice : List ℕ) → size_in (section_by_item section) voice ≡ size_in section voice
size_alike section voice = ap length (steps_in-alike section voice) ∙ length-map (steps_in section voice) by_item

sizes_alike : (voices : List (List ℕ)) (section : List ℕ × List PlayStep) → sum_by (size_in (section_by_item section)) voices ≡ sum_by (size_in section) voices
sizes_alike [] section = refl
sizes_alike (voice ∷ voices) section =
    sum_by-cons (size_in (section_by_item section)) voice voices
    ∙ (λ i. size_alike section voice i + sizes_alike voices section i)
    ∙ sym (sum_by-cons (size_in section) voice voices)

all_sizes_alike : (voices : List (List ℕ)) (played : List (List ℕ × List PlayStep))
    → sum_by (λ section. sum_by (size_in section) voices) (map section_by_item played) ≡ sum_by (λ section. sum_by (size_in section) voices) played
all_sizes_alike voices [] = refl
all_sizes_alike voices (section ∷ played) =
    sum_by-cons (λ one. sum_by (size_in one) voices) (section_by_item section) (map section_by_item played)
    ∙ (λ i. sizes_alike voices section i + all_sizes_alike voices played i)
    ∙ sym (sum_by-cons (λ one. sum_by (size_in one) voices) section played)

-- when it is played
timed_alike : (at : ℕ) (own : List PlayStep) → timed_from at (map by_item own) ≡ map timed_by_item (timed_from at own)
timed_alike at [] = refl
timed_alike at (step ∷ own) =
    ap (λ (item : Item). step_at at (by_item step) ∷ timed_from (at + length_of item) (map by_item own)) (same_item step)
    ∙ ap (λ l. step_at at (by_item step) ∷ l) (timed_alike (at + length_of (as_item step)) own)

timed_in-alike : (voices : List (List ℕ)) (voice : List ℕ) (at : ℕ) (played : List (List ℕ × List PlayStep))
    → timed_in voices voice at (map section_by_item played) ≡ map timed_by_item (timed_in voices voice at played)
timed_in-alike voices voice at [] = refl
timed_in-alike voices voice at (section ∷ played) =
    let next = at + section_time voices section in
    ap (λ n. timed_from at (steps_in (section_by_item section) voice) ++ timed_in voices voice (at + n) (map section_by_item played)) (section_time-alike voices section)
    ∙ (λ i. timed_from at (steps_in-alike section voice i) ++ timed_in-alike voices voice next played i)
    ∙ ap (λ l. l ++ map timed_by_item (timed_in voices voice next played)) (timed_alike at (steps_in section voice))
    ∙ sym (map-append timed_by_item (timed_from at (steps_in section voice)) (timed_in voices voice next played))

-- its entries
step_entries-alike : (previous : List Tone) (at : ℕ) (step : PlayStep) → step_entries previous at (by_item step) ≡ step_entries previous at step
step_entries-alike previous at (steps.Item item place) = refl
step_entries-alike previous at (steps.BarLine place) = refl

entries_alike : (previous : List Tone) (timed : List TimedStep) → entries_from previous (map timed_by_item timed) ≡ entries_from previous timed
entries_alike previous [] = refl
entries_alike previous (one ∷ timed) =
    (λ i. step_entries-alike previous one.at.0 one.step i ++ entries_from (previous_after previous (tones_of (same_item one.step i))) (map timed_by_item timed))
    ∙ ap (λ l. step_entries previous one.at.0 one.step ++ l) (entries_alike (previous_after previous (tones_of (as_item one.step))) timed)

one_section : (own : List (List ℕ × List PlayStep)) (place : ℕ) (rest : List (List ℕ × List PlayStep))
    → map section_by_item (cons_option (slice_get own place) rest) ≡ cons_option (slice_get (map section_by_item own) place) (map section_by_item rest)
one_section [] place rest = refl
one_section (section ∷ own) zero rest = refl
one_section (section ∷ own) (suc place) rest = one_section own place rest

found_sections : (own : List (List ℕ × List PlayStep)) (places : List ℕ)
    → filter_map (slice_get (map section_by_item own)) places ≡ map section_by_item (filter_map (slice_get own) places)
found_sections own [] = refl
found_sections own (place ∷ places) =
    ap (cons_option (slice_get (map section_by_item own) place)) (found_sections own places)
    ∙ sym (one_section own place (filter_map (slice_get own) places))

module _ (tune : List (Bor Item)) where
  abbrev so : List (Bor Item)
  so = map referred (items_of tune)

  step_sections-alike : step_sections so ≡ map section_by_item (step_sections tune)
  step_sections-alike =
      ap (λ items. sections_from (opening_voice items) [] (opening_voice items) (steps_from 0 so)) (same_items tune)
      ∙ ap (sections_from (opening_voice (items_of tune)) [] (opening_voice (items_of tune))) (steps_alike 0 tune)
      ∙ sections_alike (opening_voice (items_of tune)) [] (opening_voice (items_of tune)) (steps_from 0 tune)

  played_sections-alike : played_sections so ≡ map section_by_item (played_sections tune)
  played_sections-alike =
      ap (λ items. filter_map (slice_get (step_sections so)) (sections_of (after_all order_after None items) (letters items))) (same_items tune)
      ∙ ap (λ found. filter_map (slice_get found) (sections_of (after_all order_after None (items_of tune)) (letters (items_of tune)))) step_sections-alike
      ∙ found_sections (step_sections tune) (sections_of (after_all order_after None (items_of tune)) (letters (items_of tune)))

  play_alike : (voice : List ℕ) → play_of_voice so voice ≡ map timed_by_item (play_of_voice tune voice)
  play_alike voice =
      ap (λ items. timed_in (voice_names items) voice 0 (played_sections so)) (same_items tune)
      ∙ ap (timed_in (voice_names (items_of tune)) voice 0) played_sections-alike
      ∙ timed_in-alike (voice_names (items_of tune)) voice 0 (played_sections tune)

  track_alike : (places : List (List Place)) (voice : List ℕ) → placed_track places (play_of_voice so voice) ≡ placed_track places (play_of_voice tune voice)
  track_alike places voice = ap (placed_track places) (play_alike voice) ∙ ap (map (placed_entry places)) (entries_alike [] (play_of_voice tune voice))

  tracks_alike : (places : List (List Place)) (voices : List (List ℕ))
      → map (λ voice. placed_track places (play_of_voice so voice)) voices ≡ map (λ voice. placed_track places (play_of_voice tune voice)) voices
  tracks_alike places [] = refl
  tracks_alike places (voice ∷ voices) = (λ i. track_alike places voice i ∷ tracks_alike places voices i)

  -- the play of a tune
  pub tune_play-alike : (places : List (List Place)) → tune_play so places ≡ tune_play tune places
  tune_play-alike places =
      ap (λ items. map (λ voice. placed_track places (play_of_voice so voice)) (tracks items)) (same_items tune)
      ∙ tracks_alike places (tracks (items_of tune))

  -- and its size
  pub steps_played-alike : steps_played so ≡ steps_played tune
  steps_played-alike =
      ap (λ items. sum_by (λ section. sum_by (size_in section) (counted_voices items)) (played_sections so)) (same_items tune)
      ∙ ap (sum_by (λ section. sum_by (size_in section) (counted_voices (items_of tune)))) played_sections-alike
      ∙ all_sizes_alike (counted_voices (items_of tune)) (played_sections tune)
