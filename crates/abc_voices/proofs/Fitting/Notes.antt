-- The notes of what is played have keys and velocities of MIDI, begin when they are played or later, and end no sooner.
use Rattle.std.proofs.Common.{◌≡◌, ℕ, ◌+◌, ◌≤◌, false, List, [], ◌∷◌, length, Option, Some, None, arith, refl, subst, zero, suc, take, drop}
use Rattle.std.specs.Prelude.{All, IfSome, slice_index_or, remove}
use Rattle.std.proofs.lemmas.List.Elements.{All-nil, All-head, All-tail, All-append, All-push, All-take, All-drop, All-weaker}
use Rattle.abc_bars_items.specs.Item.{IsItem, IsTone}
use Rattle.abc_bars_items.specs.Velocity.{IsVelocity}
use Rattle.abc_bars_items.specs.declared.item.Item.{Item}
use Rattle.abc_bars_items.specs.declared.item.Item.TheVariants as items
use Rattle.abc_bars_items.specs.declared.item.Tone.{Tone}
use Rattle.abc_voices_score.specs.declared.score.Sounding.{Sounding}
use Rattle.abc_voices.specs.TiedNotes.{TokenNotes, Notes, own_note, lengthen_to, with_note, next_place, with_key, with_tones, before, notes_from}
use Rattle.abc_voices_sections.specs.Step.{length_of, tones_of}

-- a note that begins then or later, ends no sooner than it begins, and has a key and a velocity of MIDI
pub record Fits (at : ℕ) (note : Sounding) : Type 0 where
  pub begins : at ≤ note.on.0
  pub forward : note.on.0 ≤ note.off.0
  pub key : note.key ≤ 127
  pub velocity : IsVelocity note.velocity

earlier : (at k : ℕ) (note : Sounding) → Fits (at + k) note → Fits at note
earlier at k note fits = record { begins = omega (arith, fits.begins); forward = fits.forward; key = fits.key; velocity = fits.velocity }

own_fits : (at : ℕ) (tone : Tone) (key : ℕ) → key ≤ 127 → IsTone tone → Fits at (own_note at tone key)
own_fits at tone key within is = record { begins = omega arith; forward = omega arith; key = within; velocity = is.velocity }

-- the element of a list if there is one, else a spare one
at_place : {X : Type 0} (P : X → Type 0) (xs : List X) (place : ℕ) (spare : X) → All P xs → P spare → P (slice_index_or xs place spare)
at_place P [] place spare all own = own
at_place P (x ∷ xs) zero spare all own = All-head P x xs all
at_place P (x ∷ xs) (suc place) spare all own = at_place P xs place spare (All-tail P x xs all) own

lengthened_fits : (at : ℕ) (note : Sounding) (next : List Sounding) (place : ℕ) → note.on.0 ≡ at → Fits at note → All (Fits at) next → Fits at (lengthen_to note next place)
lengthened_fits at note next place begins own all =
    let other : Fits at (slice_index_or next place note) = at_place (Fits at) next place note all own in
    record { begins = own.begins; forward = omega (arith, begins, other.begins, other.forward); key = own.key; velocity = own.velocity }

-- what is left of a list where one element is taken out
All-remove : {X : Type 0} (P : X → Type 0) (xs : List X) (place : ℕ) → All P xs → All P (remove xs place)
All-remove P xs place all = All-append P (take place xs) (drop (suc place) xs) (All-take P place xs all) (All-drop P (suc place) xs all)

-- notes that begin at a time token, and those after it
pub record AreFitting (at : ℕ) (linked : TokenNotes) : Type 0 where
  pub begun : All (Fits at) linked.begun
  pub next : All (Fits at) linked.next

with_note_fits : (at : ℕ) (note : Sounding) (linked : TokenNotes) (place : Option ℕ) → note.on.0 ≡ at → Fits at note → AreFitting at linked → AreFitting at (with_note note linked place)
with_note_fits at note linked None begins own fits =
    record { begun = All-push (Fits at) linked.begun note fits.begun own; next = fits.next }
with_note_fits at note linked (Some place) begins own fits =
    record {
      begun = All-push (Fits at) linked.begun (lengthen_to note linked.next place) fits.begun (lengthened_fits at note linked.next place begins own fits.next);
      next = All-remove (Fits at) linked.next place fits.next;
    }

with_key_fits : (at : ℕ) (tone : Tone) (linked : TokenNotes) (key : Option ℕ) → IfSome key (λ k. k ≤ 127) → IsTone tone → AreFitting at linked → AreFitting at (with_key at tone linked key)
with_key_fits at tone linked None within is fits = fits
with_key_fits at tone linked (Some key) within is fits =
    with_note_fits at (own_note at tone key) linked (next_place tone.tied key linked.next) refl (own_fits at tone key within is) fits

with_tones_fit : (at : ℕ) (linked : TokenNotes) (tones : List Tone) → All IsTone tones → AreFitting at linked → AreFitting at (with_tones at linked tones)
with_tones_fit at linked [] all fits = fits
with_tones_fit at linked (tone ∷ tones) all fits =
    with_tones_fit at (with_key at tone linked tone.key) tones (All-tail IsTone tone tones all)
    (with_key_fits at tone linked tone.key (All-head IsTone tone tones all).key (All-head IsTone tone tones all) fits)

-- notes of a play
pub record AllFit (at : ℕ) (notes : Notes) : Type 0 where
  pub first : All (Fits at) notes.first
  pub others : All (Fits at) notes.others

before_fits : (at : ℕ) (tones : Option (List Tone)) (notes : Notes) → IfSome tones (All IsTone) → AllFit at notes → AllFit at (before at tones notes)
before_fits at None notes all fits = fits
before_fits at (Some tones) notes all fits =
    let linked : AreFitting at (with_tones at (record { begun = []; next = notes.first }) tones) =
    with_tones_fit at (record { begun = []; next = notes.first }) tones all (record { begun = All-nil (Fits at); next = fits.first }) in
    record { first = linked.begun; others = All-append (Fits at) notes.others _ fits.others linked.next }

tones_within : (item : Item) → IsItem item → IfSome (tones_of item) (All IsTone)
tones_within (items.Tone tones length) is = is.0.each
tones_within (items.Rest length false) is = All-nil IsTone
tones_within _ is = tt

pub all_earlier : (at k : ℕ) (notes : Notes) → AllFit (at + k) notes → AllFit at notes
all_earlier at k notes fits = record {
  first = All-weaker (Fits (at + k)) (Fits at) (earlier at k) notes.first fits.first;
  others = All-weaker (Fits (at + k)) (Fits at) (earlier at k) notes.others fits.others;
}

same_moment : (a b : ℕ) → a ≡ b → (notes : Notes) → AllFit a notes → AllFit b notes
same_moment a b same notes fits = subst (λ at. AllFit at notes) same fits

-- how long steps take one after another
abbrev pub lasting : List Item → ℕ
lasting [] = 0
lasting (step ∷ steps) = length_of step + lasting steps

-- the notes of steps that are played from a moment on, before notes that begin after them or later
pub notes_fit : (at : ℕ) (steps : List Item) (notes : Notes) → All IsItem steps
    → AllFit (at + lasting steps) notes → AllFit at (notes_from at steps notes)
notes_fit at [] notes all fits = all_earlier at 0 notes fits
notes_fit at (step ∷ steps) notes all fits =
    let k : ℕ = length_of step in
    let rest : AllFit (at + k) (notes_from (at + k) steps notes) =
    notes_fit (at + k) steps notes (All-tail IsItem step steps all) (same_moment (at + (k + lasting steps)) ((at + k) + lasting steps) (omega arith) notes fits) in
    before_fits at (tones_of step) (notes_from (at + k) steps notes) (tones_within step (All-head IsItem step steps all)) (all_earlier at k (notes_from (at + k) steps notes) rest)
