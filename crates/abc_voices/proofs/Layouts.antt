-- The score of the stages of a tune is that of the tune.
use Rattle.std.proofs.Common.{◌≡◌, ℕ, ◌+◌, ◌-◌, ◌<◌, ◌≤◌, Bool, true, false, cond, List, [], ◌∷◌, ◌++◌, length, map, drop, get_or, Option, Some, None}
use Rattle.std.proofs.Common.{refl, sym, ap, subst, ◌∙◌, arith, append-nil, length-drop}
use Rattle.std.proofs.lemmas.Grind.{common_steps}
use Rattle.std.proofs.lemmas.List.{drop_more, length-map}
use Rattle.std.proofs.lemmas.List.Folds.{flat_map-map}
use Rattle.std.proofs.lemmas.List.Sums.{sum_by_from}
use Rattle.std.proofs.lemmas.Option.{slice_get-map, slice_get-get_or, slice_get_past}
use Rattle.std.specs.Prelude.{◌||◌, pos, bytes_eq, All, slice_get, filter_map, sum_by, option_map, unwrap_or}
use Rattle.std.specs.List.{list_any, flat_map}
use Rattle.abc_bars_items.specs.declared.item.Item.{Item}
use Rattle.abc_bars_items.specs.declared.item.Item.TheVariants as items
use Rattle.abc_fields.specs.declared.meter.Meter.TheVariants as meters
use Rattle.abc_time.specs.Grains.{grains_of_the_latest_end}
use Rattle.abc_bars_items.specs.Item.{IsItem}
use Rattle.abc_repeat.specs.Order.{sections_of, has_unknown}
use Rattle.abc_voices_sections.specs.Section.{letters, sections}
use Rattle.abc_voices_score.specs.declared.score.Score.{Score}
use Rattle.abc_voices_sections.specs.declared.stage.VoicePart.{VoicePart}
use Rattle.abc_voices_sections.specs.declared.stage.Stage.{Stage}
use Rattle.abc_voices.specs.Turns.{IsStage, steps_of, notes_along, for_voices, voices_along, set_by_all, set_by_one, parts_differ}
use Rattle.abc_voices_sections.specs.Turns.{length_along}
use Rattle.abc_voices.specs.Turns.{is_stage_uneven, first_place, changes_along, programs_by, programs_along, end_along, score_along}
use Rattle.abc_voices.specs.Layout.{played_sections, voice_notes, all_notes, set_in, first_of, lengths_differ, is_uneven, voices_notes, last_off}
use Rattle.abc_voices.specs.Layout.{end_of, changes_of, programs_in, programs_of, score_of, usual_tempo, arranged_of}
use Rattle.abc_voices_sections.specs.PlayedSection.{play_in, section_length}
use Rattle.abc_voices.specs.Change.{tempo_of, meter_of, key_of, program_of, set_from, after_opening}
use Rattle.abc_voices.specs.ScoreChanges.{programs_in_force}
use Rattle.abc_voices.specs.TiedNotes.{notes_from}
use Rattle.abc_voices.specs.Opening.{tempo_after, meter_after, key_after, program_after, order_after, after_all, title_of}
use Rattle.abc_voices_sections.specs.Stage.{part_of, stage_of}
use Rattle.abc_voices.specs.Track.{voice_names, has_unnamed_track, names_from, names_after, tracks}
use Rattle.abc_voices.proofs.Fitting.Kept.{played_kept}
use Rattle.abc_voices.specs.ScoreChanges.{changes_in_force}
use Rattle.abc_voices.proofs.Staged.{stages_are, total_within}

abbrev Sectioned : Type 0
Sectioned = List ℕ × List Item

-- how long the stages of sections are
pub total_of : (voices : List (List ℕ)) (played : List Sectioned) → length_along (map (stage_of voices) played) ≡ sum_by (section_length voices) played
total_of voices [] = refl
total_of voices (section ∷ played) =
    sum_by_from (λ (stage : Stage Item). stage.longest.0) (0 + section_length voices section) (map (stage_of voices) played)
    ∙ ap (λ n. (0 + section_length voices section) + n) (total_of voices played)
    ∙ sym (sum_by_from (section_length voices) (0 + section_length voices section) played)

-- what is at a place of a list, by what is left there
record Front {X : Type 0} (xs : List X) (k : ℕ) (x : X) (rest : List X) : Type 0 where
  found : slice_get xs k ≡ Some x
  following : drop (k + 1) xs ≡ rest

front : {X : Type 0} (xs : List X) (k : ℕ) (x : X) (rest : List X) → drop k xs ≡ x ∷ rest → Front xs k x rest
front xs k x rest e =
    let within : k < length xs = omega (arith, length-drop k xs, ap length e) in
    let more : drop k xs ≡ get_or xs k x ∷ drop (k + 1) xs = drop_more xs k x within in
    let here : get_or xs k x ≡ x = cc in
    record { found = slice_get-get_or xs k x within ∙ ap Some here; following = cc }

-- what the voice at a place plays of a stage
steps_here : (section : Sectioned) (voices : List (List ℕ)) (k : ℕ) (voice : List ℕ) → slice_get voices k ≡ Some voice
    → steps_of (slice_get (map (part_of section) voices) k) ≡ play_in section voice
steps_here section voices k voice e = ap steps_of (slice_get-map (part_of section) voices k ∙ ap (option_map (part_of section)) e)

-- the notes of the voice at a place
notes_here : (voices : List (List ℕ)) (k : ℕ) (voice : List ℕ) (at : ℕ) (played : List Sectioned) → slice_get voices k ≡ Some voice
    → notes_along k at (map (stage_of voices) played) ≡ voice_notes voices voice at played
notes_here voices k voice at [] e = refl
notes_here voices k voice at (section ∷ played) e =
    λ i. notes_from at (steps_here section voices k voice e i) (notes_here voices k voice (at + section_length voices section) played e i)

-- the values of the voices from a place on, if the value of each is known from the voices that are left there
voices_here : {X : Type 0} (one : ℕ → X) (own : List ℕ → X) (voices : List (List ℕ))
    → ((k : ℕ) (voice : List ℕ) (rest : List (List ℕ)) → drop k voices ≡ voice ∷ rest → one k ≡ own voice)
    → (k : ℕ) (rest : List (List ℕ)) → drop k voices ≡ rest → for_voices one k (length rest) ≡ map own rest
voices_here one own voices same k [] e = refl
voices_here one own voices same k (voice ∷ rest) e =
    λ i. same k voice rest e i ∷ voices_here one own voices same (k + 1) rest (front voices k voice rest e).following i

-- the notes of the voice at a place, by what is left of the voices there
all_here_of : (voices : List (List ℕ)) (played : List Sectioned) (k : ℕ) (voice : List ℕ) (rest : List (List ℕ)) → drop k voices ≡ voice ∷ rest
    → all_notes (notes_along k 0 (map (stage_of voices) played)) ≡ all_notes (voice_notes voices voice 0 played)
all_here_of voices played k voice rest e = ap all_notes (notes_here voices k voice 0 played (front voices k voice rest e).found)

-- what all voices set
all_here : {V : Type 0} (value_of : Item → Option V) (voices : List (List ℕ)) (at : ℕ) (played : List Sectioned)
    → set_by_all value_of at (map (stage_of voices) played) ≡ set_in value_of voices voices at played
all_here value_of voices at [] = refl
all_here value_of voices at (section ∷ played) =
    λ i. flat_map-map (λ (part : VoicePart Item). set_from value_of at part.steps) (part_of section) voices i ++ all_here value_of voices (at + section_length voices section) played i

-- what the voice at a place sets in a stage
track_here : {V : Type 0} (value_of : Item → Option V) (section : Sectioned) (voices : List (List ℕ)) (k at : ℕ) (rest : List (List ℕ)) → drop k voices ≡ rest
    → set_from value_of at (steps_of (slice_get (map (part_of section) voices) k))
    ≡ flat_map (λ voice. set_from value_of at (play_in section voice)) (first_of rest)
track_here value_of section voices k at [] e =
    let past : length (map (part_of section) voices) ≤ k = omega (arith, length-map voices (part_of section), length-drop k voices, ap length e) in
    ap (λ part. set_from value_of at (steps_of part)) (slice_get_past (map (part_of section) voices) k past)
track_here value_of section voices k at (voice ∷ rest) e =
    let here : Front voices k voice rest = front voices k voice rest e in
    ap (set_from value_of at) (steps_here section voices k voice here.found)
    ∙ sym (append-nil (set_from value_of at (play_in section voice)))

-- what the first track sets
one_here : {V : Type 0} (value_of : Item → Option V) (voices : List (List ℕ)) (k at : ℕ) (played : List Sectioned)
    → set_by_one value_of k at (map (stage_of voices) played) ≡ set_in value_of voices (first_of (drop k voices)) at played
one_here value_of voices k at [] = refl
one_here value_of voices k at (section ∷ played) =
    λ i. track_here value_of section voices k at (drop k voices) refl i ++ one_here value_of voices k (at + section_length voices section) played i

-- the programs of the voice at a place, by what is left of the voices there
programs_here : (opening : Option ℕ) (voices : List (List ℕ)) (played : List Sectioned) (k : ℕ) (voice : List ℕ) (rest : List (List ℕ)) → drop k voices ≡ voice ∷ rest
    → programs_by opening (map (stage_of voices) played) k ≡ programs_in opening voices played voice
programs_here opening voices played k voice rest e =
    ap (λ sets. programs_in_force (after_opening opening sets))
    (one_here program_of voices k 0 played ∙ ap (λ those. set_in program_of voices (first_of those) 0 played) e)

any_map : {X Y : Type 0} (p : Y → Bool) (q : X → Bool) (f : X → Y) → ((x : X) → p (f x) ≡ q x) → (xs : List X) → list_any p (map f xs) ≡ list_any q xs
any_map p q f h [] = refl
any_map p q f h (x ∷ xs) = λ i. h x i || any_map p q f h xs i

-- whether voices are uneven in the stage of a section, and in one of some
uneven_here : (voices : List (List ℕ)) (section : Sectioned) → is_stage_uneven (stage_of voices section) ≡ is_uneven voices section
uneven_here voices section =
    any_map (λ a. list_any (parts_differ a) (map (part_of section) voices)) (λ a. list_any (lengths_differ section a) voices) (part_of section)
    (λ a. any_map (parts_differ (part_of section a)) (lengths_differ section a) (part_of section) (λ b. refl) voices) voices

pub uneven_of : (voices : List (List ℕ)) (played : List Sectioned) → list_any is_stage_uneven (map (stage_of voices) played) ≡ list_any (is_uneven voices) played
uneven_of voices played = any_map is_stage_uneven (is_uneven voices) (stage_of voices) (uneven_here voices) played

-- the tracks, by the place of the first
tracks_here : (b : Bool) (voices : List (List ℕ)) → drop (cond b 0 1) voices ≡ cond b voices (drop 1 voices)
tracks_here true voices = refl
tracks_here false voices = refl

-- there is a voice
names_more : (known : List (List ℕ)) (name : List ℕ) (b : Bool) → length known ≤ length (cond b known (known ++ name ∷ []))
names_more known name true = omega arith
names_more known name false = grind (arith, common_steps)

name_past : (known : List (List ℕ)) (item : Item) → length known ≤ length (names_after known item)
name_past known (items.Voice opening name) = names_more known name (list_any (bytes_eq name) known)
name_past known _ = omega arith

names_within : (known : List (List ℕ)) (tune : List Item) → length known ≤ length (names_from known tune)
names_within known [] = omega arith
names_within known (step ∷ tune) =
    omega (arith, name_past known step, names_within (names_after known step) tune)

first_fits : (b : Bool) (n : ℕ) → 1 ≤ n → cond b 0 1 ≤ n
first_fits true n h = omega arith
first_fits false n h = h

-- the first track is one of the voices, or is after them
pub first_within : (tune : List Item) → first_place tune ≤ length (voice_names tune)
first_within tune = first_fits (has_unnamed_track tune) (length (voice_names tune)) (names_within ([] ∷ []) tune)

-- what the tracks have
tracks_of : {X : Type 0} (one : ℕ → X) (own : List ℕ → X) (tune : List Item)
    → ((k : ℕ) (voice : List ℕ) (rest : List (List ℕ)) → drop k (voice_names tune) ≡ voice ∷ rest → one k ≡ own voice)
    → for_voices one (first_place tune) (length (voice_names tune) - first_place tune) ≡ map own (tracks tune)
tracks_of one own tune same =
    let voices = voice_names tune in
    let first = first_place tune in
    ap (for_voices one first) (sym (length-drop first voices))
    ∙ voices_here one own voices same first (drop first voices) refl
    ∙ ap (map own) (tracks_here (has_unnamed_track tune) voices)

-- their notes
pub voices_of : (tune : List Item) → voices_along (map (stage_of (voice_names tune)) (played_sections tune)) (first_place tune) (length (voice_names tune) - first_place tune) ≡ voices_notes tune
voices_of tune =
    let voices = voice_names tune in
    let played = played_sections tune in
    tracks_of (λ one. all_notes (notes_along one 0 (map (stage_of voices) played))) (λ voice. all_notes (voice_notes voices voice 0 played)) tune (all_here_of voices played)

-- their programs
pub programs_are : (tune : List Item) → programs_along (after_all program_after None tune)
    (map (stage_of (voice_names tune)) (played_sections tune)) (first_place tune) (length (voice_names tune) - first_place tune) ≡ programs_of tune
programs_are tune =
    let opening = after_all program_after None tune in
    let voices = voice_names tune in
    let played = played_sections tune in
    tracks_of (programs_by opening (map (stage_of voices) played)) (programs_in opening voices played) tune (programs_here opening voices played)

-- when they end
pub end_of_stages : (tune : List Item)
    → end_along (map (stage_of (voice_names tune)) (played_sections tune))
    (voices_along (map (stage_of (voice_names tune)) (played_sections tune)) (first_place tune) (length (voice_names tune) - first_place tune))
    ≡ end_of tune
end_of_stages tune =
    let stages = map (stage_of (voice_names tune)) (played_sections tune) in
    λ i. last_off (total_of (voice_names tune) (played_sections tune) i) (flat_map (λ notes. notes) (voices_of tune i))

-- the changes
changes_here : (tune : List Item) → changes_along tune (first_place tune) (map (stage_of (voice_names tune)) (played_sections tune)) ≡ changes_of tune
changes_here tune =
    let voices = voice_names tune in
    let played = played_sections tune in
    let first = tracks_here (has_unnamed_track tune) voices in
    let meter_sets = one_here meter_of voices (first_place tune) 0 played ∙ ap (λ those. set_in meter_of voices (first_of those) 0 played) first in
    let key_sets = one_here key_of voices (first_place tune) 0 played ∙ ap (λ those. set_in key_of voices (first_of those) 0 played) first in
    λ i. changes_in_force
    ((record { 0 = 0 }, unwrap_or (after_all tempo_after None tune) usual_tempo) ∷ all_here tempo_of voices 0 played i)
    ((record { 0 = 0 }, unwrap_or (after_all meter_after None tune) meters.Free) ∷ meter_sets i)
    ((record { 0 = 0 }, unwrap_or (after_all key_after None tune) (pos 0, false)) ∷ key_sets i)

-- the score of the stages that are played
pub score_of_stages : (tune : List Item)
    → score_along tune (first_place tune) (length (voice_names tune)) (map (stage_of (voice_names tune)) (played_sections tune)) ≡ score_of tune
score_of_stages tune =
    λ i. record {
      title = title_of tune;
      end = record { 0 = end_of_stages tune i };
      conductor = changes_here tune i;
      voices = voices_of tune i;
      programs = programs_are tune i;
    }

-- the stages of the sections that a tune plays
abbrev pub AreOf : List Item → List (Stage Item) → Type 0
AreOf tune stages = stages ≡ map (stage_of (voice_names tune)) (played_sections tune)

pub played_here : (tune : List Item) (found : List Sectioned) (order : List ℕ) → found ≡ sections tune
    → order ≡ sections_of (after_all order_after None tune) (letters tune) → filter_map (slice_get found) order ≡ played_sections tune
played_here tune found order p q = λ i. filter_map (slice_get (p i)) (q i)

pub alike : {X Y : Type 0} (P : X → Y → Type 0) (a b : X) (u v : Y) → a ≡ b → u ≡ v → P a u → P b v
alike P a b u v p q h = subst (P b) q (subst (λ x. P x u) p h)

pub stages_hold : (tune : List Item) (stages : List (Stage Item)) → AreOf tune stages → All IsItem tune → All IsStage stages
stages_hold tune stages is all =
    subst (All IsStage) (sym is)
    (stages_are (voice_names tune) (played_sections tune)
    (played_kept IsItem tune all))

pub late_total : (tune : List Item) (stages : List (Stage Item)) → AreOf tune stages → grains_of_the_latest_end < length_along stages → grains_of_the_latest_end < end_of tune
late_total tune stages is late =
    omega (arith, ap length_along is, total_of (voice_names tune) (played_sections tune), total_within tune)

pub end_is : (tune : List Item) (stages : List (Stage Item)) (first count : ℕ) → AreOf tune stages → first ≡ first_place tune → count ≡ length (voice_names tune)
    → end_along stages (voices_along stages first (count - first)) ≡ end_of tune
end_is tune stages first count is p q =
    (λ i. end_along (is i) (voices_along (is i) (p i) (q i - p i))) ∙ end_of_stages tune

pub late_end : (tune : List Item) (stages : List (Stage Item)) (first count : ℕ) → AreOf tune stages → first ≡ first_place tune → count ≡ length (voice_names tune)
    → grains_of_the_latest_end < end_along stages (voices_along stages first (count - first)) → grains_of_the_latest_end < end_of tune
late_end tune stages first count is p q late = omega (arith, end_is tune stages first count is p q)

pub score_is : (tune : List Item) (stages : List (Stage Item)) (first count : ℕ) → AreOf tune stages → first ≡ first_place tune → count ≡ length (voice_names tune)
    → score_along tune first count stages ≡ score_of tune
score_is tune stages first count is p q =
    (λ i. score_along tune (p i) (q i) (is i)) ∙ score_of_stages tune

pub uneven_is : (tune : List Item) (stages : List (Stage Item)) → AreOf tune stages
    → list_any is_stage_uneven stages ≡ list_any (is_uneven (voice_names tune)) (played_sections tune)
uneven_is tune stages is = ap (list_any is_stage_uneven) is ∙ uneven_of (voice_names tune) (played_sections tune)

pub unknown_is : (tune : List Item) → (arranged_of tune).unknown ≡ has_unknown (after_all order_after None tune) (letters tune)
unfolding arranged_of
unknown_is tune = refl

pub arranged_is : (tune : List Item) (score : Score) (uneven unknown : Bool) → score ≡ score_of tune
    → uneven ≡ list_any (is_uneven (voice_names tune)) (played_sections tune)
    → unknown ≡ has_unknown (after_all order_after None tune) (letters tune)
    → record { score = score; uneven = uneven; unknown = unknown } ≡ arranged_of tune
unfolding arranged_of
arranged_is tune score uneven unknown p q r = λ i. record { score = p i; uneven = q i; unknown = r i }
