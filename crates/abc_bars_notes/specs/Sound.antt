-- Notes as they sound.
use Rattle.std.specs.Prelude.{ℕ, Bool, true, false, is_none, if◌then◌else◌, Option, List, [], ◌∷◌, ◌++◌}
use Rattle.abc_fields.specs.declared.fault_code.FaultCode.{FaultCode}
use Rattle.abc_fields.specs.declared.fault_code.FaultCode.TheVariants.{BadLength, KeyRange}
use Rattle.abc_scan.specs.declared.length.WrittenLength.{WrittenLength}
use Rattle.abc_scan.specs.declared.note.Note.{Note}
use Rattle.abc_time.specs.declared.grains.Grains.{Grains}
use Rattle.abc_time.specs.declared.ratio.Ratio.{Ratio}
use Rattle.abc_bars_voice.specs.declared.accidentals.Accidentals.{Accidentals}
use Rattle.abc_bars_items.specs.declared.item.Tone.{Tone}
use Rattle.abc_bars_voice.specs.declared.voice_state.VoiceState.{VoiceState}
use Rattle.abc_bars_notes.specs.declared.sound.NoteContext.{NoteContext}
use Rattle.abc_bars_notes.specs.declared.sound.ChordBuilder.{ChordBuilder}
use Rattle.abc_bars_voice.specs.declared.tied_note.TiedNote.{TiedNote}
use Rattle.abc_bars_voice.specs.Alteration.{alteration_of, with_own}
use Rattle.abc_bars_notes.specs.Lengths.{length_or_unit, texts_of}
use Rattle.abc_bars_notes.specs.Pitch.{midi_key, pitch_of}
use Rattle.abc_bars_voice.specs.Tuplet.{tuplet_factors}
use Rattle.abc_bars_items.specs.Velocity.{velocity_of}

-- The length of what is written so, and perhaps after its chord, in a note, chord or rest with these
-- factors of broken rhythm, and whether it is refused.
abbrev pub length_in : VoiceState → List Ratio → WrittenLength → Option WrittenLength → Grains × Bool
length_in state broken own outer =
    length_or_unit state.unit (texts_of own outer) (tuplet_factors state.tuplet ++ broken)

-- The key of MIDI that a note sounds, if MIDI has it.
abbrev pub key_in : VoiceState → Accidentals → Note → Option ℕ
key_in state accidentals note = midi_key (pitch_of state.shift note (alteration_of state accidentals note))

-- A fault at a column, if there is one.
abbrev pub fault_if : Bool → ℕ → FaultCode → List (ℕ × FaultCode)
fault_if true column code = (column, code) ∷ []
fault_if false column code = []

-- A note as it sounds.
abbrev pub tone_in : VoiceState → Accidentals → List Ratio → Option WrittenLength → Note → Bool → Tone
tone_in state accidentals broken outer note tied = record {
  key = key_in state accidentals note;
  length = (length_in state broken note.length outer).0;
  velocity = velocity_of state.dynamic;
  tied = tied;
}

-- A note as a tie goes on from it.
abbrev pub tied_note_in : VoiceState → Accidentals → Note → TiedNote
tied_note_in state accidentals note = record {
  letter = note.letter;
  octave = note.octave;
  alteration = alteration_of state accidentals note;
}

-- The faults of a note at a column. That it is silent if MIDI has no key for it is not in ABC 2.1.
abbrev pub note_faults : VoiceState → Accidentals → List Ratio → Option WrittenLength → ℕ → Note → List (ℕ × FaultCode)
note_faults state accidentals broken outer column note =
    fault_if (length_in state broken note.length outer).1 column BadLength
    ++ fault_if (is_none (key_in state accidentals note)) column KeyRange

-- No note yet.
abbrev pub no_notes : VoiceState → ChordBuilder
no_notes state =
    record { accidentals = state.accidentals; tones = []; tied = []; faults = []; after_note = false; big = false }

-- What there is after one more note, with what is around it. That an accidental on it holds in any case is not in ABC 2.1.
abbrev pub with_note : VoiceState → List Ratio → NoteContext → Note → ChordBuilder → ChordBuilder
with_note state broken context note builder = record {
  accidentals = with_own builder.accidentals note;
  tones = builder.tones ++ tone_in state builder.accidentals broken context.outer note context.tied ∷ [];
  tied = if context.tied then builder.tied ++ tied_note_in state builder.accidentals note ∷ [] else builder.tied;
  faults = builder.faults ++ note_faults state builder.accidentals broken context.outer context.column note;
  after_note = builder.after_note;
  big = builder.big;
}
