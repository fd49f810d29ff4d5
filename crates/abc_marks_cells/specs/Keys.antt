-- The keys of notes that no tie reaches. ABC 2.1 section 4.2.
use Rattle.std.specs.Prelude.{ℕ, ℤ, Option, unwrap_or}
use Rattle.abc_fields.specs.Signature.{alteration}
use Rattle.abc_scan.specs.declared.note.Note.{Note}
use Rattle.abc_bars_voice.specs.declared.voice_state.VoiceState.{VoiceState}
use Rattle.abc_bars_voice.specs.Accidentals.{written_on}
use Rattle.abc_bars_voice.specs.Alteration.{own_alteration}
use Rattle.abc_bars_notes.specs.Pitch.{midi_key, pitch_of}

-- The semitones by which a note is altered if no tie is before it. The first of these counts: its own accidental; the last one in
-- the bar that reaches it; the signature.
abbrev pub untied_alteration : VoiceState → Note → ℤ
untied_alteration state note =
    unwrap_or (own_alteration note) (unwrap_or (written_on state.accidentals note) (alteration state.signature note.letter))

-- The key of MIDI of a note if no tie is before it. Its own accidental alters no other note.
abbrev pub untied_key : VoiceState → Note → Option ℕ
untied_key state note = midi_key (pitch_of state.shift note (untied_alteration state note))
