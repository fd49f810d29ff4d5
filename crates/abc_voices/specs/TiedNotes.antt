-- The notes of time tokens: a tied tone is joined with one of its key in the next time token. ABC 2.1
-- section 4.11; which one, if there are several, is not in ABC 2.1.
use Rattle.std.specs.Prelude.{ℕ, ◌+◌, ◌==◌, Bool, if◌then◌else◌, List, [], ◌∷◌, ◌++◌, Option, Some, None, slice_index_or}
use Rattle.std.specs.Prelude.{position, remove}
use Rattle.abc_bars_items.specs.declared.item.Item.{Item}
use Rattle.abc_bars_items.specs.declared.item.Tone.{Tone}
use Rattle.abc_voices_score.specs.declared.score.Sounding.{Sounding}
use Rattle.abc_voices_sections.specs.Step.{length_of, tones_of}

-- The notes that begin at a time token, and those of the next one to which none of the first is tied.
pub record TokenNotes : Type 0 where
  pub begun : List Sounding
  pub next : List Sounding

-- The note of a tone that is tied to none.
abbrev pub own_note : ℕ → Tone → ℕ → Sounding
own_note at tone key = record {
  key = key;
  on = record { 0 = at };
  off = record { 0 = at + tone.length.0 };
  velocity = tone.velocity;
}

-- A note that lasts to the end of the one at this place, as loud as it begins.
abbrev pub lengthen_to : Sounding → List Sounding → ℕ → Sounding
lengthen_to note next place = record note { off = (slice_index_or next place note).off }

-- One more note begins, tied to the one at this place, or to none.
abbrev pub with_note : Sounding → TokenNotes → Option ℕ → TokenNotes
with_note note linked None = record linked { begun = linked.begun ++ note ∷ [] }
with_note note linked (Some place) =
    record { begun = linked.begun ++ lengthen_to note linked.next place ∷ []; next = remove linked.next place }

-- The place of the note with which a tone of this key is joined: a tied one with the first of its key.
abbrev pub next_place : Bool → ℕ → List Sounding → Option ℕ
next_place tied key next = if tied then position (λ note. note.key == key) next else None

-- One more tone, at this moment. If MIDI has no key for it, it is silent.
abbrev pub with_key : ℕ → Tone → TokenNotes → Option ℕ → TokenNotes
with_key at tone linked None = linked
with_key at tone linked (Some key) =
    with_note (own_note at tone key) linked (next_place tone.tied key linked.next)

-- More tones of a time token at this moment.
abbrev pub with_tones : ℕ → TokenNotes → List Tone → TokenNotes
with_tones at linked [] = linked
with_tones at linked (tone ∷ tones) = with_tones at (with_key at tone linked tone.key) tones

-- The notes of a play: those that begin at its first time token, and the others.
pub record Notes : Type 0 where
  pub first : List Sounding
  pub others : List Sounding

-- The notes of a time token and the play after it.
abbrev pub before_all : TokenNotes → List Sounding → Notes
before_all linked others = record { first = linked.begun; others = others ++ linked.next }

-- The notes of an item and the play after it. Only time tokens have notes.
abbrev pub before : ℕ → Option (List Tone) → Notes → Notes
before at None notes = notes
before at (Some tones) notes =
    before_all (with_tones at (record { begun = []; next = notes.first }) tones) notes.others

-- The notes of a play in three parts. `linked` has those that begin at its first time token, and those of the next one to
-- which none of the first is tied. `others` has the others.
pub record NotesInParts : Type 0 where
  pub linked : TokenNotes
  pub others : List Sounding

-- the parts, after a time token begins before the first one
abbrev pub with_token_begun : NotesInParts → NotesInParts
with_token_begun parts = record {
  linked = record { begun = []; next = parts.linked.begun };
  others = parts.others ++ parts.linked.next;
}

-- The notes of a play, of their parts.
abbrev pub notes_in : NotesInParts → Notes
notes_in parts = before_all parts.linked parts.others

-- The notes of what is played from this moment on, before a play with these notes.
abbrev pub notes_from : ℕ → List Item → Notes → Notes
notes_from at [] notes = notes
notes_from at (step ∷ steps) notes =
    before at (tones_of step) (notes_from (at + length_of step) steps notes)
