-- What the voices with a track play in stages is what they play in the sections of these.
use Rattle.std.proofs.Common.{◌≡◌, ℕ, ◌+◌, ◌-◌, ◌<◌, ◌≤◌, Bool, true, false, cond, List, [], ◌∷◌, ◌++◌, length, map, drop, take, get_or, All, Some, None, refl, sym, ap, subst, ◌∙◌, arith, length-drop}
use Rattle.std.specs.Borrow.{Bor}
use Rattle.std.specs.Prelude.{slice_get, filter_map, sum_by, option_map}
use Rattle.std.specs.List.{list_any}
use Rattle.std.proofs.lemmas.List.{drop-map, drop_more, take_all}
use Rattle.std.proofs.lemmas.List.Elements.{All-nil, All-cons, All-head, All-tail}
use Rattle.std.proofs.lemmas.List.Sums.{sum_by-cons}
use Rattle.std.proofs.lemmas.Option.{slice_get-map, slice_get-get_or}
use Rattle.abc_bars_items.specs.declared.item.Item.{Item}
use Rattle.abc_repeat.specs.Order.{sections_of}
use Rattle.abc_time.specs.declared.grains.Grains.{Grains}
use Rattle.abc_voices.proofs.Layouts.{first_within}
use Rattle.abc_voices.specs.Layout.{total}
use Rattle.abc_voices.specs.Opening.{order_after, after_all}
use Rattle.abc_voices.specs.Track.{has_unnamed_track, voice_names, tracks}
use Rattle.abc_voices.specs.Turns.{first_place, for_voices}
use Rattle.abc_voices_sections.specs.Items.{items_of}
use Rattle.abc_voices_sections.specs.PlayedSection.{section_length}
use Rattle.abc_voices_sections.specs.Section.{letters}
use Rattle.abc_play_sections.specs.declared.step.PlayStep.{PlayStep}
use Rattle.abc_play_sections.specs.Play.{steps_in}
use Rattle.abc_play_tune.specs.Play.{counted_voices, counted_place, is_nameless, step_sections, played_sections, play_of_voice}
use Rattle.abc_play_tune.specs.Stage.{section_time, length_in, stage_of}
use Rattle.abc_voices_sections.specs.Stage.{part_in}
use Rattle.abc_play_sections.specs.Step.{as_item}
use Rattle.abc_play_tune.specs.Steps.{without_places}
use Rattle.abc_play_tune.specs.Timed.{timed_from, timed_in, steps_of, timed_along}
use Rattle.abc_play_tune.specs.Turns.{IsPart, IsStage}
use Rattle.abc_voices_sections.specs.Turns.{length_along}
use Rattle.abc_voices_sections.specs.declared.stage.Stage.{Stage}
use Rattle.abc_play_tune.proofs.Counted.{LastsAsLong, all_last_as_long}
use Rattle.abc_play_tune.proofs.Times.{section_time-alike}
use Rattle.abc_play_tune.proofs.WithoutPlaces.{plays_sections}

abbrev Stepped : Type 0
Stepped = List ℕ × List PlayStep

-- each part is at most as long as the longest
abbrev longest_in : Stepped → List (List ℕ) → ℕ
longest_in section voices = section_time voices section

parts_all : (section : Stepped) (longest : Grains) (voices : List (List ℕ)) → longest_in section voices ≤ longest.0 → All (IsPart longest) (map (part_in as_item section) voices)
parts_all section longest [] within = All-nil (IsPart longest)
parts_all section longest (voice ∷ voices) within =
    let here : length_in section voice ≤ longest.0 = omega arith in
    let own : IsPart longest (part_in as_item section voice) = record { length = refl; short = here } in
    All-cons (IsPart longest) (part_in as_item section voice) (map (part_in as_item section) voices) own (parts_all section longest voices (omega arith))

stages_are : (voices : List (List ℕ)) (played : List Stepped) → All IsStage (map (stage_of voices) played)
stages_are voices [] = All-nil IsStage
stages_are voices (section ∷ played) =
    let own : IsStage (stage_of voices section) = record { parts = parts_all section (stage_of voices section).longest voices (omega arith) } in
    All-cons IsStage (stage_of voices section) (map (stage_of voices) played) own (stages_are voices played)

pub stages_hold : (voices : List (List ℕ)) (played : List Stepped) (stages : List (Stage PlayStep)) → stages ≡ map (stage_of voices) played → All IsStage stages
stages_hold voices played stages is = subst (All IsStage) (sym is) (stages_are voices played)

-- how long the stages of sections are
total_of : (voices : List (List ℕ)) (played : List Stepped) → length_along (map (stage_of voices) played) ≡ sum_by (section_time voices) played
total_of voices [] = refl
total_of voices (section ∷ played) =
    sum_by-cons (λ (stage : Stage PlayStep). stage.longest.0) (stage_of voices section) (map (stage_of voices) played)
    ∙ ap (λ n. section_time voices section + n) (total_of voices played)
    ∙ sym (sum_by-cons (section_time voices) section played)

times_of : (voices : List (List ℕ)) (played : List Stepped) → sum_by (section_time voices) played ≡ sum_by (section_length voices) (map without_places played)
times_of voices [] = refl
times_of voices (section ∷ played) =
    sum_by-cons (section_time voices) section played
    ∙ (λ i. section_time-alike voices section i + times_of voices played i)
    ∙ sym (sum_by-cons (section_length voices) (without_places section) (map without_places played))

-- the voices that count take as long as all
times_counted : (tune : List Item) (played : List Stepped) → All (LastsAsLong tune) played → sum_by (section_time (counted_voices tune)) played ≡ sum_by (section_time (voice_names tune)) played
times_counted tune [] all = refl
times_counted tune (section ∷ played) all =
    sum_by-cons (section_time (counted_voices tune)) section played
    ∙ (λ i. All-head (LastsAsLong tune) section played all i + times_counted tune played (All-tail (LastsAsLong tune) section played all) i)
    ∙ sym (sum_by-cons (section_time (voice_names tune)) section played)

pub sum_by-section_time : (tune : List (Bor Item)) → sum_by (section_time (counted_voices (items_of tune))) (played_sections tune) ≡ total (items_of tune)
sum_by-section_time tune =
    let voices = voice_names (items_of tune) in
    times_counted (items_of tune) (played_sections tune) (all_last_as_long tune)
    ∙ times_of voices (played_sections tune) ∙ ap (sum_by (section_length voices)) (plays_sections tune)

pub length_along-total : (tune : List (Bor Item)) (stages : List (Stage PlayStep)) → stages ≡ map (stage_of (counted_voices (items_of tune))) (played_sections tune)
    → length_along stages ≡ total (items_of tune)
length_along-total tune stages is =
    ap length_along is ∙ total_of (counted_voices (items_of tune)) (played_sections tune) ∙ sum_by-section_time tune

timed_counted : (tune : List Item) (voice : List ℕ) (at : ℕ) (played : List Stepped) → All (LastsAsLong tune) played
    → timed_in (counted_voices tune) voice at played ≡ timed_in (voice_names tune) voice at played
timed_counted tune voice at [] all = refl
timed_counted tune voice at (section ∷ played) all =
    ap (λ time. timed_from at (steps_in section voice) ++ timed_in (counted_voices tune) voice (at + time) played) (All-head (LastsAsLong tune) section played all)
    ∙ ap (λ l. timed_from at (steps_in section voice) ++ l)
    (timed_counted tune voice (at + section_time (voice_names tune) section) played (All-tail (LastsAsLong tune) section played all))

-- the sections that are played
pub filter_map-played : (tune : List (Bor Item)) (found : List Stepped) (order : List ℕ) → found ≡ step_sections tune
    → order ≡ sections_of (after_all order_after None (items_of tune)) (letters (items_of tune)) → filter_map (slice_get found) order ≡ played_sections tune
filter_map-played tune found order p q = λ i. filter_map (slice_get (p i)) (q i)

-- what is at a place of a list, by what is left there
record Front {X : Type 0} (xs : List X) (k : ℕ) (x : X) (rest : List X) : Type 0 where
  found : slice_get xs k ≡ Some x
  following : drop (k + 1) xs ≡ rest

front : {X : Type 0} (xs : List X) (k : ℕ) (x : X) (rest : List X) → drop k xs ≡ x ∷ rest → Front xs k x rest
front xs k x rest e =
    let within : k < length xs = omega (arith, length-drop k xs, ap length e) in
    let more : drop k xs ≡ get_or xs k x ∷ drop (k + 1) xs = drop_more xs k x within in
    let here : get_or xs k x ≡ x = cc in
    record { found = slice_get-get_or xs k x within ∙ ap Some here; following = cc }

-- what the voice at a place plays
steps_here : (section : Stepped) (voices : List (List ℕ)) (k : ℕ) (voice : List ℕ) → slice_get voices k ≡ Some voice
    → steps_of (slice_get (map (part_in as_item section) voices) k) ≡ steps_in section voice
steps_here section voices k voice e = ap steps_of (slice_get-map (part_in as_item section) voices k ∙ ap (option_map (part_in as_item section)) e)

timed_here : (voices : List (List ℕ)) (k : ℕ) (voice : List ℕ) (at : ℕ) (played : List Stepped) → slice_get voices k ≡ Some voice
    → timed_along k at (map (stage_of voices) played) ≡ timed_in voices voice at played
timed_here voices k voice at [] e = refl
timed_here voices k voice at (section ∷ played) e =
    λ i. timed_from at (steps_here section voices k voice e i) ++ timed_here voices k voice (at + section_time voices section) played e i

-- the values of the voices from a place on
voices_here : {X : Type 0} (one : ℕ → X) (own : List ℕ → X) (voices : List (List ℕ))
    → ((k : ℕ) (voice : List ℕ) (rest : List (List ℕ)) → drop k voices ≡ voice ∷ rest → one k ≡ own voice)
    → (k : ℕ) (rest : List (List ℕ)) → drop k voices ≡ rest → for_voices one k (length rest) ≡ map own rest
voices_here one own voices same k [] e = refl
voices_here one own voices same k (voice ∷ rest) e =
    λ i. same k voice rest e i ∷ voices_here one own voices same (k + 1) rest (front voices k voice rest e).following i

tracks_here : (b : Bool) (voices : List (List ℕ)) → drop (cond b 0 1) voices ≡ cond b voices (drop 1 voices)
tracks_here true voices = refl
tracks_here false voices = refl

-- the voices that count, and the tracks among them
pub drop-counted_voices : (tune : List Item) → drop (counted_place tune) (voice_names tune) ≡ counted_voices tune
drop-counted_voices tune = by_test (list_any is_nameless tune)
  where
    by_test : (b : Bool) → drop (cond b 0 (first_place tune)) (voice_names tune) ≡ cond b (voice_names tune) (tracks tune)
    by_test true = refl
    by_test false = tracks_here (has_unnamed_track tune) (voice_names tune)

-- their names, by a part of those of all
pub names_counted : (tune : List Item) (voices : List (Bor (List ℕ))) (from : ℕ) → map (λ (voice : Bor (List ℕ)). voice.now) voices ≡ voice_names tune
    → from ≡ counted_place tune → map (λ (voice : Bor (List ℕ)). voice.now) (take (length voices - from) (drop from voices)) ≡ counted_voices tune
names_counted tune voices from names at =
    let now : Bor (List ℕ) → List ℕ = λ voice. voice.now in
    let all : take (length voices - from) (drop from voices) ≡ drop from voices =
    take_all (length voices - from) (drop from voices) (omega (arith, length-drop from voices)) in
    ap (map now) all ∙ sym (drop-map now from voices) ∙ (λ i. drop (at i) (names i)) ∙ drop-counted_voices tune

drop-tracks : (tune : List Item) → drop (first_place tune - counted_place tune) (counted_voices tune) ≡ tracks tune
drop-tracks tune = by_test (list_any is_nameless tune)
  where
    by_test : (b : Bool) → drop (first_place tune - cond b 0 (first_place tune)) (cond b (voice_names tune) (tracks tune)) ≡ tracks tune
    by_test true = let same : first_place tune - 0 ≡ first_place tune = omega arith in ap (λ k. drop k (voice_names tune)) same ∙ tracks_here (has_unnamed_track tune) (voice_names tune)
    by_test false = let none : first_place tune - first_place tune ≡ 0 = omega arith in ap (λ k. drop k (tracks tune)) none

pub counted_within : (tune : List Item) → counted_place tune ≤ first_place tune
counted_within tune = by_test (list_any is_nameless tune)
  where
    by_test : (b : Bool) → cond b 0 (first_place tune) ≤ first_place tune
    by_test true = omega arith
    by_test false = omega arith

-- the first track is one of the voices that count, or is after them
pub first_counted : (tune : List Item) → first_place tune - counted_place tune ≤ length (counted_voices tune)
first_counted tune = omega (arith, first_within tune, ap length (drop-counted_voices tune), length-drop (counted_place tune) (voice_names tune))

-- what the voices with a track play
pub for_voices-timed : (tune : List (Bor Item)) (stages : List (Stage PlayStep)) (first count : ℕ)
    → first ≡ first_place (items_of tune) - counted_place (items_of tune) → count ≡ length (counted_voices (items_of tune))
    → stages ≡ map (stage_of (counted_voices (items_of tune))) (played_sections tune)
    → for_voices (λ one. timed_along one 0 stages) first (count - first) ≡ map (play_of_voice tune) (tracks (items_of tune))
for_voices-timed tune stages first count p q is =
    let voices = counted_voices (items_of tune) in
    let place = first_place (items_of tune) - counted_place (items_of tune) in
    (λ i. for_voices (λ one. timed_along one 0 (is i)) (p i) (q i - p i))
    ∙ ap (for_voices (λ one. timed_along one 0 (map (stage_of voices) (played_sections tune))) place) (sym (length-drop place voices))
    ∙ voices_here (λ one. timed_along one 0 (map (stage_of voices) (played_sections tune))) (play_of_voice tune) voices
    (λ k voice rest e. timed_here voices k voice 0 (played_sections tune) (front voices k voice rest e).found
    ∙ timed_counted (items_of tune) voice 0 (played_sections tune) (all_last_as_long tune)) place (drop place voices) refl
    ∙ ap (map (play_of_voice tune)) (drop-tracks (items_of tune))
