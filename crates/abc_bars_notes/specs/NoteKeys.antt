-- What alters a note, and the key that it sounds, apart from how it is computed. ABC 2.1 sections 4.1, 4.2 and 4.11.
use Rattle.std.specs.Prelude.{◌≡◌, ℕ, ℤ, Bool, List, [], ◌∷◌, ◌++◌, All, Some, None}
use Rattle.abc_fields.specs.Signature.{alteration as signature_alteration}
use Rattle.abc_scan.specs.declared.note.Note.{Note}
use Rattle.abc_text.specs.declared.accidental.Accidental.{Accidental}
use Rattle.abc_text.specs.Accidental.{alteration as accidental_alteration}
use Rattle.abc_text.specs.Letter.{capital}
use Rattle.abc_time.specs.declared.ratio.Ratio.{Ratio}
use Rattle.abc_bars_voice.specs.declared.accidentals.Accidentals.{Accidentals}
use Rattle.abc_bars_items.specs.declared.item.Item.TheVariants as items
use Rattle.abc_bars_items.specs.declared.item.Tone.{Tone}
use Rattle.abc_bars_voice.specs.declared.voice_state.VoiceState.{VoiceState}
use Rattle.abc_bars_voice.specs.declared.tied_note.TiedNote.{TiedNote}
use Rattle.abc_bars_voice.specs.Accidentals.{written_on}
use Rattle.abc_bars_notes.specs.Pitch.{midi_key, pitch_of}
use Rattle.abc_bars_notes.specs.TimeTokens.{play_note}

-- A tied note has the letter and the octave of a note, as they are written.
abbrev pub IsSame : Note → TiedNote → Type 0
IsSame note tied = (capital tied.letter ≡ capital note.letter) × (tied.octave ≡ note.octave)

-- A note is altered by the first of these that there is, with these accidentals in its voice:
-- - `own`: its own accidental;
-- - `written`: the last one that reaches it;
-- - `tied`: that of the last tied note of its letter and octave in the time token before. Not in ABC 2.1;
-- - `signature`: the signature.
pub record IsAltered (state : VoiceState) (accidentals : Accidentals) (note : Note) (by : ℤ) : Type 0 where
  pub own : (accidental : Accidental) → note.accidental ≡ Some accidental → by ≡ accidental_alteration accidental
  pub written : (last : ℤ) → note.accidental ≡ None → written_on accidentals note ≡ Some last → by ≡ last
  pub tied : (before following : List TiedNote) (tied : TiedNote) → note.accidental ≡ None → written_on accidentals note ≡ None
      → state.tied ≡ before ++ tied ∷ following → IsSame note tied → All (λ other. ¬ IsSame note other) following
      → by ≡ tied.alteration
  pub signature : note.accidental ≡ None → written_on accidentals note ≡ None → All (λ other. ¬ IsSame note other) state.tied
      → by ≡ signature_alteration state.signature note.letter

-- A note sounds the key of its pitch, as what alters it says.
abbrev pub NotesSoundTheirKeys : Type 0
NotesSoundTheirKeys =
    (state : VoiceState) (broken : List Ratio) (from : ℕ) (note : Note) (tied : Bool)
    → (by : ℤ) × (tone : Tone)
    × IsAltered state state.accidentals note by
    × ((play_note state broken tied from note).items ≡ items.Tone (tone ∷ []) tone.length ∷ [])
    × (tone.key ≡ midi_key (pitch_of state.shift note by))
