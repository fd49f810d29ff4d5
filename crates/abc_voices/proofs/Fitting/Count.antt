-- How many notes and changes there are, by how much is played.
use Rattle.std.proofs.Common.{ℕ, ◌+◌, ◌*◌, ◌≤◌, false, List, [], ◌∷◌, length, Option, Some, None, arith, zero, suc, length-append}
use Rattle.std.specs.Prelude.{All, IfSome, remove, filter_map, slice_get}
use Rattle.std.specs.List.{cons_option}
use Rattle.std.proofs.lemmas.List.Elements.{All-head, All-tail}
use Rattle.abc_bars_items.specs.Item.{IsItem}
use Rattle.abc_bars_items.specs.declared.item.Item.{Item}
use Rattle.abc_bars_items.specs.declared.item.Item.TheVariants as items
use Rattle.abc_bars_items.specs.declared.item.Tone.{Tone}
use Rattle.abc_voices_score.specs.declared.score.Sounding.{Sounding}
use Rattle.abc_voices.specs.TiedNotes.{TokenNotes, Notes, own_note, lengthen_to, with_note, next_place, with_key, with_tones, before, notes_from}
use Rattle.abc_voices_sections.specs.Step.{length_of, tones_of}

-- how many notes of both kinds there are
abbrev pub linked_notes : TokenNotes → ℕ
linked_notes linked = length linked.begun + length linked.next

abbrev pub notes_of : Notes → ℕ
notes_of notes = length notes.first + length notes.others

shorter : {X : Type 0} (xs : List X) (place : ℕ) → length (remove xs place) ≤ length xs
shorter [] zero = omega arith
shorter [] (suc place) = omega arith
shorter (x ∷ xs) zero = omega arith
shorter (x ∷ xs) (suc place) = omega (arith, shorter xs place)

note_more : (note : Sounding) (linked : TokenNotes) (place : Option ℕ) → linked_notes (with_note note linked place) ≤ linked_notes linked + 1
note_more note linked None = omega (arith, length-append linked.begun (note ∷ []))
note_more note linked (Some place) = omega (arith, length-append linked.begun (lengthen_to note linked.next place ∷ []), shorter linked.next place)

key_more : (at : ℕ) (tone : Tone) (linked : TokenNotes) (key : Option ℕ) → linked_notes (with_key at tone linked key) ≤ linked_notes linked + 1
key_more at tone linked None = omega arith
key_more at tone linked (Some key) = note_more (own_note at tone key) linked (next_place tone.tied key linked.next)

tones_more : (at : ℕ) (linked : TokenNotes) (tones : List Tone) → linked_notes (with_tones at linked tones) ≤ linked_notes linked + length tones
tones_more at linked [] = omega arith
tones_more at linked (tone ∷ tones) =
    omega (arith, tones_more at (with_key at tone linked tone.key) tones, key_more at tone linked tone.key)

-- how many tones a time token has at most
abbrev pub IsFew : Option (List Tone) → Type 0
IsFew tones = IfSome tones (λ these. length these ≤ 16)

before_more : (at : ℕ) (tones : Option (List Tone)) (notes : Notes) → IsFew tones → notes_of (before at tones notes) ≤ notes_of notes + 16
before_more at None notes few = omega arith
before_more at (Some tones) notes few =
    let linked : TokenNotes = with_tones at (record { begun = []; next = notes.first }) tones in
    omega (arith, few, tones_more at (record { begun = []; next = notes.first }) tones, length-append notes.others linked.next)

few_tones : (item : Item) → IsItem item → IsFew (tones_of item)
few_tones (items.Tone tones length) is = is.0.few
few_tones (items.Rest length false) is = omega arith
few_tones _ is = tt

-- each step gives sixteen notes at most
pub notes_few : (at : ℕ) (steps : List Item) (notes : Notes) → All IsItem steps
    → notes_of (notes_from at steps notes) ≤ notes_of notes + 16 * length steps
notes_few at [] notes all = omega arith
notes_few at (step ∷ steps) notes all =
    let k : ℕ = length_of step in
    omega (
      arith,
      notes_few (at + k) steps notes (All-tail IsItem step steps all),
      before_more at (tones_of step) (notes_from (at + k) steps notes) (few_tones step (All-head IsItem step steps all)),
    )

one_more : {A : Type 0} (x : Option A) (xs : List A) (n : ℕ) → length xs ≤ n → length (cons_option x xs) ≤ suc n
one_more None xs n few = omega (arith, few)
one_more (Some x) xs n few = omega (arith, few)

-- what is at some places is no more than the places
pub picked_few : {A : Type 0} (xs : List A) (places : List ℕ) → length (filter_map (slice_get xs) places) ≤ length places
picked_few xs [] = omega arith
picked_few xs (place ∷ places) = one_more (slice_get xs place) (filter_map (slice_get xs) places) (length places) (picked_few xs places)
