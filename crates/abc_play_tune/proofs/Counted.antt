-- The voice without a name takes no time if it does not count.
use Rattle.std.proofs.Common.{◌≡◌, ℕ, Bool, true, false, cond, List, [], ◌∷◌, ◌++◌, map, drop, refl, sym, ap, subst, ◌∙◌, arith}
use Rattle.std.specs.Borrow.{Bor}
use Rattle.std.specs.Prelude.{◌&&◌, ◌||◌, All, bytes_eq}
use Rattle.std.specs.List.{list_any}
use Rattle.std.proofs.lemmas.List.Elements.{All-nil, All-cons, All-head, All-tail, All-append}
use Rattle.std.proofs.lemmas.List.Sums.{sum_by-cons}
use Rattle.std.proofs.lemmas.Slice.Eq.{bytes_eq-Decides}
use Rattle.abc_bars_items.specs.declared.item.Item.{Item}
use Rattle.abc_bars_items.specs.declared.item.Item.TheVariants as items
use Rattle.abc_voices.specs.Layout as layout
use Rattle.abc_voices.specs.Track.{has_unnamed_track, names_from, plays_first, voice_names}
use Rattle.abc_voices.proofs.Fitting.Kept.{either, part_played, picked}
use Rattle.abc_voices_sections.specs.Items.{items_of}
use Rattle.abc_voices_sections.specs.Play.{duration}
use Rattle.abc_voices_sections.specs.PlayedSection.{play_in, section_length}
use Rattle.abc_voices_sections.specs.Section.{is_step, opening_voice, part_from, sections, sections_from, voice_after}
use Rattle.abc_voices_sections.specs.Step.{length_of}
use Rattle.abc_play_sections.specs.declared.step.PlayStep.{PlayStep}
use Rattle.abc_play_tune.specs.Play.{counted_voices, is_nameless, played_sections}
use Rattle.abc_play_tune.specs.Stage.{section_time}
use Rattle.abc_play_tune.specs.Steps.{without_places}
use Rattle.abc_play_tune.proofs.Times.{section_time-alike}
use Rattle.abc_play_tune.proofs.WithoutPlaces.{plays_sections}

-- an item that takes no time
abbrev IsQuick : Item → Type 0
IsQuick item = length_of item ≡ 0

-- what the voice without a name has of a section takes no time
abbrev IsQuiet : List ℕ × List Item → Type 0
IsQuiet section = All IsQuick (part_from [] section.0 section.1)

-- the current voice after items
abbrev current_after : List ℕ → List Item → List ℕ
current_after voice [] = voice
current_after voice (item ∷ more) = current_after (voice_after voice item) more

current_more : (voice : List ℕ) (begun : List Item) (item : Item) → current_after voice (begun ++ item ∷ []) ≡ voice_after (current_after voice begun) item
current_more voice [] item = refl
current_more voice (first ∷ begun) item = current_more (voice_after voice first) begun item

-- what is chosen before the front of a list
before_front : {X : Type 0} (b : Bool) (x : X) (whole front back : List X) → whole ≡ front ++ back → cond b (x ∷ whole) whole ≡ cond b (x ∷ front) front ++ back
before_front true x whole front back e = ap (λ l. x ∷ l) e
before_front false x whole front back e = e

part_more : (voice : List ℕ) (begun : List Item) (item : Item)
    → part_from [] voice (begun ++ item ∷ []) ≡ part_from [] voice begun ++ part_from [] (current_after voice begun) (item ∷ [])
part_more voice [] item = refl
part_more voice (first ∷ begun) item =
    let next = voice_after voice first in
    before_front (is_step first && bytes_eq voice []) first (part_from [] next (begun ++ item ∷ [])) (part_from [] next begun)
    (part_from [] (current_after next begun) (item ∷ [])) (part_more next begun item)

-- what is left after the first, and the first alone
left_of : {X : Type 0} (P : X → Type 0) (b : Bool) (x : X) (xs : List X) → All P (cond b (x ∷ xs) xs) → All P xs
left_of P true x xs all = All-tail P x xs all
left_of P false x xs all = all

first_of : {X : Type 0} (P : X → Type 0) (b : Bool) (x : X) (xs : List X) → All P (cond b (x ∷ xs) xs) → All P (cond b (x ∷ []) [])
first_of P true x xs all = All-cons P x [] (All-head P x xs all) (All-nil P)
first_of P false x xs all = All-nil P

begun_more : (opening : List ℕ) (begun : List Item) (voice : List ℕ) (item : Item) (tune : List Item) → voice ≡ current_after opening begun
    → All IsQuick (part_from [] opening begun) → All IsQuick (part_from [] voice (item ∷ tune)) → All IsQuick (part_from [] opening (begun ++ item ∷ []))
begun_more opening begun voice item tune at seen rest =
    let own : All IsQuick (part_from [] voice (item ∷ [])) =
    first_of IsQuick (is_step item && bytes_eq voice []) item (part_from [] (voice_after voice item) tune) rest in
    subst (All IsQuick) (sym (part_more opening begun item))
    (All-append IsQuick (part_from [] opening begun) (part_from [] (current_after opening begun) (item ∷ [])) seen
    (subst (λ (v : List ℕ). All IsQuick (part_from [] v (item ∷ []))) at own))

-- sections of a tune that takes no time in the voice without a name
sections_quiet : (opening : List ℕ) (begun : List Item) (voice : List ℕ) (tune : List Item) → voice ≡ current_after opening begun
    → All IsQuick (part_from [] opening begun) → All IsQuick (part_from [] voice tune) → All IsQuiet (sections_from opening begun voice tune)
sections_quiet opening begun voice [] at seen rest = All-cons IsQuiet (opening, begun) [] seen (All-nil IsQuiet)
sections_quiet opening begun voice (items.Section letter ∷ tune) at seen rest =
    All-cons IsQuiet (opening, begun) (sections_from voice [] voice tune) seen (sections_quiet voice [] voice tune refl (All-nil IsQuick) rest)
sections_quiet opening begun voice (item ∷ tune) at seen rest =
    sections_quiet opening (begun ++ item ∷ []) (voice_after voice item) tune
    (ap (λ v. voice_after v item) at ∙ sym (current_more opening begun item))
    (begun_more opening begun voice item tune at seen rest)
    (left_of IsQuick (is_step item && bytes_eq voice []) item (part_from [] (voice_after voice item) tune) rest)

-- one of two tests that both fail
left_fails : (a b : Bool) → (a || b) ≡ false → a ≡ false
left_fails true b e = e
left_fails false b e = refl

right_fails : (a b : Bool) → (a || b) ≡ false → b ≡ false
right_fails true b e = cc
right_fails false b e = e

-- what another voice has is passed
passed : (item : Item) (xs : List Item) (a b : Bool) → b ≡ false → All IsQuick xs → All IsQuick (cond (a && b) (item ∷ xs) xs)
passed item xs true true e all = cc
passed item xs true false e all = all
passed item xs false b e all = all

-- another voice is the current one, and no V: goes back
other_voice : (voice : List ℕ) (tune : List Item) → list_any is_nameless tune ≡ false → bytes_eq voice [] ≡ false → All IsQuick (part_from [] voice tune)
other_voice voice [] none apart = All-nil IsQuick
other_voice voice (items.Voice false name ∷ tune) none apart =
    other_voice name tune (right_fails (bytes_eq name []) (list_any is_nameless tune) none) (left_fails (bytes_eq name []) (list_any is_nameless tune) none)
other_voice voice (item ∷ tune) none apart =
    passed item (part_from [] voice tune) (is_step item) (bytes_eq voice []) apart (other_voice voice tune none apart)

-- nothing takes time before the first V: of the body
none_first : (tune : List Item) → list_any is_nameless tune ≡ false → plays_first tune ≡ false → All IsQuick (part_from [] [] tune)
none_first [] none later = All-nil IsQuick
none_first (items.Tone tones length ∷ tune) none later = cc
none_first (items.Rest length bar ∷ tune) none later = cc
none_first (items.Voice false name ∷ tune) none later =
    other_voice name tune (right_fails (bytes_eq name []) (list_any is_nameless tune) none) (left_fails (bytes_eq name []) (list_any is_nameless tune) none)
none_first (item ∷ tune) none later =
    let rest : All IsQuick (part_from [] [] tune) = none_first tune none later in
    either IsQuick (is_step item && bytes_eq [] []) (item ∷ part_from [] [] tune) (part_from [] [] tune) (All-cons IsQuick item (part_from [] [] tune) refl rest) rest

by_opening : (voice : List ℕ) (tune : List Item) → list_any is_nameless tune ≡ false → (b : Bool) → bytes_eq voice [] ≡ b → (b && plays_first tune) ≡ false
    → All IsQuick (part_from [] voice tune)
by_opening voice tune none true e later =
    subst (λ (v : List ℕ). All IsQuick (part_from [] v tune)) (sym ((bytes_eq-Decides voice []).0 e)) (none_first tune none later)
by_opening voice tune none false e later = other_voice voice tune none e

-- each section that is played
played_quiet : (tune : List Item) → list_any is_nameless tune ≡ false → has_unnamed_track tune ≡ false → All IsQuiet (layout.played_sections tune)
played_quiet tune none apart =
    let all = by_opening (opening_voice tune) tune none (bytes_eq (opening_voice tune) []) refl apart in
    picked IsQuiet (sections tune) _ (sections_quiet (opening_voice tune) [] (opening_voice tune) tune refl (All-nil IsQuick) all)

no_time : (own : List Item) → All IsQuick own → duration own ≡ 0
no_time [] all = refl
no_time (item ∷ own) all =
    let more = sum_by-cons length_of item own in
    omega (arith, more, All-head IsQuick item own all, no_time own (All-tail IsQuick item own all))

-- such a section lasts as long without that voice
shorter : (voices : List (List ℕ)) (section : List ℕ × List Item) → IsQuiet section → section_length ([] ∷ voices) section ≡ section_length voices section
shorter voices section quiet =
    let none : duration (play_in section []) ≡ 0 = no_time (play_in section []) (part_played IsQuick section.0 section.1 [] quiet) in
    omega (arith, none)

-- the voice without a name is the first of all
abbrev StaysFirst : List (List ℕ) → List Item → Type 0
StaysFirst known tune = names_from known tune ≡ [] ∷ drop 1 (names_from known tune)

by_name : (known : List (List ℕ)) (name : List ℕ) (tune : List Item) → ((more : List (List ℕ)) → StaysFirst ([] ∷ more) tune)
    → (b : Bool) → StaysFirst (cond b ([] ∷ known) ([] ∷ known ++ name ∷ [])) tune
by_name known name tune rest true = rest known
by_name known name tune rest false = rest (known ++ name ∷ [])

first_stays : (known : List (List ℕ)) (tune : List Item) → StaysFirst ([] ∷ known) tune
first_stays known [] = refl
first_stays known (items.Voice opening name ∷ tune) = by_name known name tune (λ more. first_stays more tune) (list_any (bytes_eq name) ([] ∷ known))
first_stays known (item ∷ tune) = first_stays known tune

abbrev Stepped : Type 0
Stepped = List ℕ × List PlayStep

-- a section lasts as long by its voices that count as by all
abbrev pub LastsAsLong : List Item → Stepped → Type 0
LastsAsLong tune section = section_time (counted_voices tune) section ≡ section_time (voice_names tune) section

one_lasts : (tune : List Item) (section : Stepped) → IsQuiet (without_places section) → section_time (drop 1 (voice_names tune)) section ≡ section_time (voice_names tune) section
one_lasts tune section quiet =
    let others = drop 1 (voice_names tune) in
    section_time-alike others section ∙ sym (shorter others (without_places section) quiet) ∙ sym (section_time-alike ([] ∷ others) section)
    ∙ ap (λ voices. section_time voices section) (sym (first_stays [] tune))

all_last : (tune : List Item) (played : List Stepped) → All IsQuiet (map without_places played)
    → All (λ section. section_time (drop 1 (voice_names tune)) section ≡ section_time (voice_names tune) section) played
all_last tune [] quiet = All-nil (λ section. section_time (drop 1 (voice_names tune)) section ≡ section_time (voice_names tune) section)
all_last tune (section ∷ played) quiet =
    All-cons (λ one. section_time (drop 1 (voice_names tune)) one ≡ section_time (voice_names tune) one) section played
    (one_lasts tune section (All-head IsQuiet (without_places section) (map without_places played) quiet))
    (all_last tune played (All-tail IsQuiet (without_places section) (map without_places played) quiet))

each_same : (voices : List (List ℕ)) (played : List Stepped) → All (λ section. section_time voices section ≡ section_time voices section) played
each_same voices [] = All-nil (λ section. section_time voices section ≡ section_time voices section)
each_same voices (section ∷ played) = All-cons (λ one. section_time voices one ≡ section_time voices one) section played refl (each_same voices played)

-- so does each that is played
pub all_last_as_long : (tune : List (Bor Item)) → All (LastsAsLong (items_of tune)) (played_sections tune)
all_last_as_long tune = by_tests (list_any is_nameless (items_of tune)) refl (has_unnamed_track (items_of tune)) refl
  where
    by_tests : (a : Bool) → list_any is_nameless (items_of tune) ≡ a → (b : Bool) → has_unnamed_track (items_of tune) ≡ b
        → All (λ section. section_time (cond a (voice_names (items_of tune)) (cond b (voice_names (items_of tune)) (drop 1 (voice_names (items_of tune))))) section
        ≡ section_time (voice_names (items_of tune)) section) (played_sections tune)
    by_tests true p b q = each_same (voice_names (items_of tune)) (played_sections tune)
    by_tests false p true q = each_same (voice_names (items_of tune)) (played_sections tune)
    by_tests false p false q =
        all_last (items_of tune) (played_sections tune) (subst (All IsQuiet) (sym (plays_sections tune)) (played_quiet (items_of tune) p q))
