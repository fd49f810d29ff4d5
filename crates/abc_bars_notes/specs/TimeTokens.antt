-- Notes, chords and rests: what each gives and what it leaves for its voice.
use Rattle.std.specs.Prelude.{ℕ, ◌==◌, Bool, true, false, not, ◌&&◌, if◌then◌else◌, None, is_none, List, [], ◌∷◌, ◌++◌, length}
use Rattle.abc_fields.specs.declared.fault_code.FaultCode.{FaultCode}
use Rattle.abc_fields.specs.declared.fault_code.FaultCode.TheVariants.{BadLength, EmptyChord, KeyRange}
use Rattle.abc_scan.specs.declared.chord.Chord.{Chord}
use Rattle.abc_scan.specs.declared.length.WrittenLength.{WrittenLength}
use Rattle.abc_scan.specs.declared.note.Note.{Note}
use Rattle.abc_time.specs.declared.grains.Grains.{Grains}
use Rattle.abc_time.specs.declared.ratio.Ratio.{Ratio}
use Rattle.abc_bars_items.specs.declared.item.Item.{Item}
use Rattle.abc_bars_items.specs.declared.item.Item.TheVariants as items
use Rattle.abc_bars_items.specs.declared.item.Tone.{Tone}
use Rattle.abc_bars_voice.specs.declared.voice_state.VoiceState.{VoiceState}
use Rattle.abc_bars_notes.specs.declared.sound.NoteContext.{NoteContext}
use Rattle.abc_bars_notes.specs.declared.sound.ChordBuilder.{ChordBuilder}
use Rattle.abc_bars_items.specs.Item.{Items, append_faults, append_item}
use Rattle.abc_bars_notes.specs.Chords.{chord_builder_of}
use Rattle.abc_bars_items.specs.Column.{column_of}
use Rattle.abc_bars_notes.specs.Sound.{fault_if, length_in, no_notes, with_note}
use Rattle.abc_bars_notes.specs.TokenRole.{has_note}
use Rattle.abc_bars_voice.specs.Alteration.{with_own}
use Rattle.abc_bars_voice.specs.Tuplet.{count_down}
use Rattle.abc_bars_voice.specs.declared.tied_note.TiedNote.{TiedNote}

-- The state of the voice after a token, and what the token gives.
pub record TimeTokenResult : Type 0 where
  pub state : VoiceState
  pub items : List Item
  pub faults : List (ℕ × FaultCode)

-- The length of the first tone.
abbrev pub first_length : List Tone → Grains
first_length [] = record { 0 = 0 }
first_length (tone ∷ tones) = tone.length

-- Notes that sound together: they last as long as the first of them (ABC 2.1 section 4.17), and are one token of an
-- open tuplet.
abbrev pub sound_notes : VoiceState → ChordBuilder → TimeTokenResult
sound_notes state builder = record {
  state = record state {
    accidentals = builder.accidentals;
    tuplet = count_down state.tuplet;
    tied = builder.tied;
  };
  items = items.Tone builder.tones (first_length builder.tones) ∷ [];
  faults = builder.faults;
}

-- The state of a voice after a note alone, with the note as a tie goes on from it.
abbrev pub voice_after : VoiceState → Note → Bool → TiedNote → VoiceState
voice_after state note tied tied_note = record state {
  accidentals = with_own state.accidentals note;
  tuplet = count_down state.tuplet;
  tied = if tied then tied_note ∷ [] else [];
}

-- The same and a note alone, with its faults at a column.
abbrev pub with_tone : Items → Tone → Bool → ℕ → Items
with_tone lists tone refused column =
    append_item (append_faults lists (fault_if refused column BadLength ++ fault_if (is_none tone.key) column KeyRange))
    (items.Tone (tone ∷ []) tone.length)

-- What is around a note alone, at a place of its line.
abbrev pub note_context : ℕ → Bool → NoteContext
note_context from tied = record { outer = None; column = column_of from; tied = tied }

-- A note at a place of its line, in broken rhythm with these factors, which is tied or not.
abbrev pub play_note : VoiceState → List Ratio → Bool → ℕ → Note → TimeTokenResult
play_note state broken tied from note =
    sound_notes state (with_note state broken (note_context from tied) note (no_notes state))

-- Whether a note surely leaves the state of its voice: no tie before or after it, no accidental of its own, no open tuplet.
abbrev pub is_steady : VoiceState → Note → Bool → Bool
is_steady state note tied =
    not tied && is_none note.accidental && is_none state.tuplet && (length state.tied == 0)

-- A chord that has a note sounds, one that has none takes no time. Not in ABC 2.1.
abbrev pub chord_by : Bool → VoiceState → ℕ → ChordBuilder → TimeTokenResult
chord_by true state from builder = sound_notes state builder
chord_by false state from builder =
    record { state = state; items = []; faults = (column_of from, EmptyChord) ∷ builder.faults }

-- A chord at a place of its line, in broken rhythm with these factors, which is tied or not.
abbrev pub play_chord : VoiceState → List Ratio → Bool → ℕ → Chord → TimeTokenResult
play_chord state broken tied from chord =
    chord_by (has_note chord.parts) state from
    (chord_builder_of state broken (record { length = chord.length; tied = tied; from = from }) chord.parts)

-- A rest at a place of its line, in broken rhythm with these factors.
abbrev pub play_rest : VoiceState → List Ratio → ℕ → WrittenLength → TimeTokenResult
play_rest state broken from written = record {
  state = record state { tuplet = count_down state.tuplet; tied = [] };
  items = items.Rest (length_in state broken written None).0 false ∷ [];
  faults = fault_if (length_in state broken written None).1 (column_of from) BadLength;
}

-- What was given before and what a token gives.
abbrev pub with_result : Items → TimeTokenResult → Items
with_result before played =
    record { items = before.items ++ played.items; faults = before.faults ++ played.faults }
