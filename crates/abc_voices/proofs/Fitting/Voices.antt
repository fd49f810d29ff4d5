-- The notes of each voice are few enough and fit a file.
use Rattle.std.proofs.Common.{◌≡◌, ℕ, ◌+◌, ◌-◌, ◌*◌, ◌≤◌, max, List, [], ◌∷◌, ◌++◌, drop, arith, refl, sym, ap, ◌∙◌, subst}
use Rattle.std.specs.Prelude.{All, sum_by}
use Rattle.std.specs.List.{flat_map}
use Rattle.std.proofs.lemmas.List.Elements.{All-nil, All-cons, All-head, All-tail, All-drop, All-weaker}
use Rattle.std.proofs.lemmas.List.Sums.{sum_by-cons}
use Rattle.abc_bars_items.specs.Item.{IsItem}
use Rattle.abc_bars_items.specs.declared.item.Item.{Item}
use Rattle.abc_voices_score.specs.declared.score.Sounding.{Sounding}
use Rattle.abc_voices.specs.Layout.{voice_notes, last_off}
use Rattle.abc_voices_sections.specs.PlayedSection.{play_in, size_in, length_in, section_length}
use Rattle.abc_voices.specs.TiedNotes.{Notes}
use Rattle.abc_voices_sections.specs.EndingFields.{with_fields_in_endings}
use Rattle.abc_voices_sections.specs.Play.{places_of, duration}
use Rattle.abc_voices_sections.specs.Section.{part}
use Rattle.abc_voices_sections.specs.Step.{length_of}
use Rattle.abc_voices.specs.Track.{voice_names, tracks, has_unnamed_track}
use Rattle.abc_voices.proofs.Fitting.Count.{notes_of, notes_few, picked_few}
use Rattle.abc_voices.proofs.Fitting.Kept.{either, play_kept}
use Rattle.abc_voices.proofs.Fitting.Notes.{Fits, AllFit, all_earlier, lasting, notes_fit}

pub lasts : (steps : List Item) → lasting steps ≡ duration steps
lasts [] = refl
lasts (step ∷ steps) = ap (λ n. length_of step + n) (lasts steps) ∙ sym (sum_by-cons length_of step steps)

-- how many places of a section are played, over all voices
abbrev pub size_of : List (List ℕ) → List ℕ × List Item → ℕ
size_of voices section = sum_by (size_in section) voices

-- a voice is no longer than the longest in each section, and plays no more than all together
pub record IsHeard (voices : List (List ℕ)) (voice : List ℕ) : Type 0 where
  pub lasts : (section : List ℕ × List Item) → length_in section voice ≤ section_length voices section
  pub plays : (section : List ℕ × List Item) → size_in section voice ≤ size_of voices section

heard_first : (voice : List ℕ) (voices : List (List ℕ)) → IsHeard (voice ∷ voices) voice
heard_first voice voices = record {
  lasts = λ section. omega arith;
  plays = λ section. omega (arith, sum_by-cons (size_in section) voice voices);
}

heard_more : (voice : List ℕ) (voices : List (List ℕ)) (other : List ℕ) → IsHeard voices other → IsHeard (voice ∷ voices) other
heard_more voice voices other heard_notes = record {
  lasts = λ section. omega (arith, heard_notes.lasts section);
  plays = λ section. omega (arith, heard_notes.plays section, sum_by-cons (size_in section) voice voices);
}

-- what each voice has among all that are known, those with a track have
pub each_voice : (P : List (List ℕ) → List ℕ → Type 0) → ((voice : List ℕ) (voices : List (List ℕ)) → P (voice ∷ voices) voice)
    → ((voice : List ℕ) (voices : List (List ℕ)) (other : List ℕ) → P voices other → P (voice ∷ voices) other) → (voices : List (List ℕ)) → All (P voices) voices
each_voice P first more [] = All-nil (P [])
each_voice P first more (voice ∷ voices) =
    All-cons (P (voice ∷ voices)) voice voices (first voice voices) (All-weaker (P voices) (P (voice ∷ voices)) (more voice voices) voices (each_voice P first more voices))

pub each_track : (P : List (List ℕ) → List ℕ → Type 0) → ((voices : List (List ℕ)) → All (P voices) voices) → (tune : List Item) → All (P (voice_names tune)) (tracks tune)
each_track P all tune =
    let voices = voice_names tune in
    either (P voices) (has_unnamed_track tune) voices (drop 1 voices) (all voices) (All-drop (P voices) 1 voices (all voices))

pub all_heard : (voices : List (List ℕ)) → All (IsHeard voices) voices
all_heard = each_voice IsHeard heard_first heard_more

pub tracks_heard : (tune : List Item) → All (IsHeard (voice_names tune)) (tracks tune)
tracks_heard = each_track IsHeard all_heard

abbrev pub ItemsIn : List ℕ × List Item → Type 0
ItemsIn section = All IsItem section.1

moment : (at k n : ℕ) → k ≤ n → at + n ≡ (at + k) + (n - k)
moment at k n within = omega (arith, within)

later_fit : (at k n : ℕ) (notes : Notes) → k ≤ n → AllFit (at + n) notes → AllFit (at + k) notes
later_fit at k n notes within fits =
    all_earlier (at + k) (n - k) notes (subst (λ m. AllFit m notes) (moment at k n within) fits)

-- the notes of a voice in sections that are played from a moment on
pub voice_fits : (voices : List (List ℕ)) (voice : List ℕ) → IsHeard voices voice → (at : ℕ) (sections : List (List ℕ × List Item)) → All ItemsIn sections
    → AllFit at (voice_notes voices voice at sections)
voice_fits voices voice heard_notes at [] all = record { first = All-nil (Fits at); others = All-nil (Fits at) }
voice_fits voices voice heard_notes at (section ∷ rest) all =
    let play : List Item = play_in section voice in
    let following : Notes = voice_notes voices voice (at + section_length voices section) rest in
    notes_fit at play following (play_kept IsItem section voice (All-head ItemsIn section rest all))
    (later_fit at (lasting play) (section_length voices section) following (omega (arith, lasts play, heard_notes.lasts section))
    (voice_fits voices voice heard_notes (at + section_length voices section) rest (All-tail ItemsIn section rest all)))

-- how many there are
pub voice_few : (voices : List (List ℕ)) (voice : List ℕ) → IsHeard voices voice → (at : ℕ) (sections : List (List ℕ × List Item)) → All ItemsIn sections
    → notes_of (voice_notes voices voice at sections) ≤ 16 * sum_by (size_of voices) sections
voice_few voices voice heard_notes at [] all = omega arith
voice_few voices voice heard_notes at (section ∷ rest) all =
    let play : List Item = play_in section voice in
    let following : Notes = voice_notes voices voice (at + section_length voices section) rest in
    omega (
      arith,
      sum_by-cons (size_of voices) section rest,
      notes_few at play following (play_kept IsItem section voice (All-head ItemsIn section rest all)),
      picked_few (with_fields_in_endings (part voice section)) (places_of (with_fields_in_endings (part voice section))),
      heard_notes.plays section,
      voice_few voices voice heard_notes (at + section_length voices section) rest (All-tail ItemsIn section rest all),
    )

-- the latest end of notes is no sooner than where it was looked for from
pub last_past : (at : ℕ) (notes : List Sounding) → at ≤ last_off at notes
last_past at [] = omega arith
last_past at (note ∷ notes) = omega (arith, last_past (max at note.off.0) notes)

-- a note that ends by a moment
abbrev pub EndsBy : ℕ → Sounding → Type 0
EndsBy end note = note.off.0 ≤ end

-- all notes end by the latest end
pub latest_end : (at : ℕ) (notes : List Sounding) → All (EndsBy (last_off at notes)) notes
latest_end at [] = All-nil (EndsBy at)
latest_end at (note ∷ notes) =
    All-cons (EndsBy (last_off at (note ∷ notes))) note notes (omega (arith, last_past (max at note.off.0) notes)) (latest_end (max at note.off.0) notes)

front : {X : Type 0} (P : X → Type 0) (xs ys : List X) → All P (xs ++ ys) → All P xs
front P [] ys all = All-nil P
front P (x ∷ xs) ys all = All-cons P x xs (All-head P x (xs ++ ys) all) (front P xs ys (All-tail P x (xs ++ ys) all))

back : {X : Type 0} (P : X → Type 0) (xs ys : List X) → All P (xs ++ ys) → All P ys
back P [] ys all = all
back P (x ∷ xs) ys all = back P xs ys (All-tail P x (xs ++ ys) all)

-- what holds of all elements of lists put end to end holds of each list's
pub each_list : {X : Type 0} (P : X → Type 0) (lists : List (List X)) → All P (flat_map (λ list. list) lists) → All (All P) lists
each_list P [] all = All-nil (All P)
each_list P (list ∷ lists) all =
    All-cons (All P) list lists (front P list (flat_map (λ l. l) lists) all) (each_list P lists (back P list (flat_map (λ l. l) lists) all))
