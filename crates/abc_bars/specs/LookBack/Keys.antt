-- The keys of notes at the places of a tune, by what is before them in their voice. ABC 2.1 sections 4.1, 4.2,
-- 4.11 and 4.17.
use Rattle.std.specs.Prelude.{◌≡◌, ℕ, ℤ, Bool, true, ◌||◌, List, [], ◌∷◌, ◌++◌, map, All, Option, Some, None}
use Rattle.abc_fields.specs.Signature.{alteration as signature_alteration}
use Rattle.abc_scan.specs.declared.chord.Chord.{Chord}
use Rattle.abc_scan.specs.declared.directive.Reach.{Reach}
use Rattle.abc_scan.specs.declared.note.Note.{Note}
use Rattle.abc_scan.specs.declared.token.TokenKind.TheVariants as kinds
use Rattle.abc_text.specs.declared.accidental.Accidental.{Accidental}
use Rattle.abc_text.specs.Accidental.{alteration as accidental_alteration}
use Rattle.abc_text.specs.Letter.{capital}
use Rattle.abc_time.specs.declared.grains.Grains.{Grains}
use Rattle.abc_bars_items.specs.declared.item.Item.{Item}
use Rattle.abc_bars_items.specs.declared.item.Item.TheVariants as items
use Rattle.abc_bars_items.specs.declared.item.Tone.{Tone}
use Rattle.abc_bars_voice.specs.Accidentals.{reach_of}
use Rattle.abc_bars_notes.specs.Pitch.{midi_key, pitch_of}
use Rattle.abc_bars_notes.specs.TokenRole.{has_note}
use Rattle.abc_bars_body.specs.Cell.{tie_ahead}
use Rattle.abc_bars.specs.LookBack.CellPlace.{CellPlace, GivesItem, VoicePlace, voice_place_at}
use Rattle.abc_bars.specs.LookBack.Element.{Element}
use Rattle.abc_bars.specs.LookBack.Since.{IsSince, notes_of_tokens}
use Rattle.abc_bars.specs.LookBack.Ties.{IsTimeBefore, tied_notes}
use Rattle.abc_bars.specs.LookBack.Voice.{alteration_at, counted_notes, shift_at, signature_at, tied_at, written_by}

-- By how many semitones a note is altered, with these notes of its chord before it, newest first.
abbrev pub altered_at : VoicePlace → List Note → Note → ℤ
altered_at at earlier note = alteration_at at.opening (tied_at at.opening at.before) at.before earlier note

-- How far accidentals reach in the tune of a token.
abbrev pub reach_at : VoicePlace → Reach
reach_at at = reach_of at.opening.accidentals

-- The last accidental that reaches a note among others, newest first.
pub record IsLastAmong (reach : Reach) (note : Note) (notes : List Note) (by : ℤ) : Type 0 where
  pub nearer : List Note
  pub other : Note
  pub further : List Note
  pub split : notes ≡ nearer ++ other ∷ further
  pub writes : written_by reach note other ≡ Some by
  pub none : All (λ silent. written_by reach note silent ≡ None) nearer

-- No accidental reaches a note among others.
abbrev pub IsNoneAmong : Reach → Note → List Note → Type 0
IsNoneAmong reach note notes = All (λ other. written_by reach note other ≡ None) notes

-- Two notes have one letter and one octave, as they are written.
abbrev pub AreWrittenAlike : Note → Note → Type 0
AreWrittenAlike note other = (capital other.letter ≡ capital note.letter) × (other.octave ≡ note.octave)

-- A note is altered by the first of these that there is:
-- - `own`: its own accidental;
-- - `written`: the last one that reaches it, among the notes of its chord before it and those of its voice since the
--   voice's last bar line, K: or accepted P:;
-- - `tied`: what altered the last tied note of its letter and octave in the voice's preceding time token, at that note's
--   place. Not in ABC 2.1;
-- - `signature`: the signature.
pub record IsAlteredAt (at : VoicePlace) (earlier : List Note) (note : Note) : Type 0 where
  pub since : List Element
  pub since_is : IsSince at.before since
  pub own : (accidental : Accidental) → note.accidental ≡ Some accidental → altered_at at earlier note
      ≡ accidental_alteration accidental
  pub written : (by : ℤ) → note.accidental ≡ None → IsLastAmong (reach_at at) note (earlier ++ notes_of_tokens since) by
      → altered_at at earlier note ≡ by
  pub tied : (token : Element) (further : List Element) (front back : List (List Note × Note)) (last : List Note × Note)
      → note.accidental ≡ None → IsNoneAmong (reach_at at) note (earlier ++ notes_of_tokens since)
      → IsTimeBefore at.before token further → tied_notes token.kind token.tied ≡ front ++ last ∷ back
      → AreWrittenAlike note last.1 → All (λ other. ¬ AreWrittenAlike note other.1) back
      → altered_at at earlier note ≡ altered_at (record { opening = at.opening; before = further }) last.0 last.1
  pub signature : note.accidental ≡ None → IsNoneAmong (reach_at at) note (earlier ++ notes_of_tokens since)
      → ((token : Element) (further : List Element) → IsTimeBefore at.before token further
      → All (λ other. ¬ AreWrittenAlike note other.1) (tied_notes token.kind token.tied))
      → altered_at at earlier note ≡ signature_alteration (signature_at at.opening.signature at.before) note.letter

-- The key of MIDI that a note sounds, if MIDI has it: that of its pitch as it is altered.
abbrev pub key_at : VoicePlace → List Note → Note → Option ℕ
key_at at earlier note = midi_key (pitch_of (shift_at at.opening.shift at.before) note (altered_at at earlier note))

-- The keys of the notes of a chord, which a tie follows or not, each with whether it is tied.
abbrev pub keys_from : VoicePlace → Bool → List Note → List (Note × Bool) → List (Option ℕ × Bool)
keys_from at follows earlier [] = []
keys_from at follows earlier (note ∷ later) =
    (key_at at earlier note.0, follows || note.1) ∷ keys_from at follows (note.0 ∷ earlier) later

-- The key of a tone, and whether it is tied.
abbrev pub heard_of : Tone → Option ℕ × Bool
heard_of tone = (tone.key, tone.tied)

-- An item is of tones of these keys, which are tied or not.
abbrev pub SoundsKeys : List (Option ℕ × Bool) → Item → Type 0
SoundsKeys keys item = (tones : List Tone) × (lasting : Grains) × (item ≡ items.Tone tones lasting) × (map heard_of tones ≡ keys)

-- A note at any place of a tune sounds its key there, and is tied if a tie directly follows it.
abbrev pub NotesHaveKeys : Type 0
NotesHaveKeys =
    (place : CellPlace) (note : Note)
    → GivesItem place (kinds.Note note) (SoundsKeys ((key_at (voice_place_at place) [] note, tie_ahead place.ahead) ∷ []))

-- The first sixteen notes of a chord at any place of a tune sound their keys there, and each is tied if a tie directly
-- follows it or the chord.
abbrev pub ChordsHaveKeys : Type 0
ChordsHaveKeys =
    (place : CellPlace) (chord : Chord)
    → has_note chord.parts ≡ true
    → GivesItem place (kinds.Chord chord) (SoundsKeys
    (keys_from (voice_place_at place) (tie_ahead place.ahead) [] (counted_notes chord)))
