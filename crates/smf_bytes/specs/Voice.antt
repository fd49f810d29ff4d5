-- The events of a voice before they are written.
use Rattle.std.specs.Prelude.{ℕ, ◌+◌, ◌==◌, Bool, true, false, if◌then◌else◌, List, [], ◌∷◌, ◌++◌, flat_map, map}
use Rattle.abc_time.specs.Grains.{tick_at}
use Rattle.abc_voices_score.specs.declared.score.ProgramChange.{ProgramChange as VoiceProgram}
use Rattle.abc_voices_score.specs.declared.score.Sounding.{Sounding}
use Rattle.smf_bytes.specs.declared.event.Event.{Event}
use Rattle.smf_bytes.specs.declared.voice_event.VoiceEvent.{VoiceEvent}
use Rattle.smf_bytes.specs.declared.voice_event.VoiceEventKind.{VoiceEventKind}
use Rattle.smf_bytes.specs.declared.voice_event.VoiceEventKind.TheVariants.{NoteOff, ProgramChange, NoteOn}

-- What a track holds of an event of each kind on a channel, after its delta time (SMF 1.0).
abbrev pub bytes_of : VoiceEventKind → ℕ → ℕ → ℕ → List ℕ
bytes_of NoteOff channel key value = (128 + channel) ∷ key ∷ value ∷ []
bytes_of ProgramChange channel key value = (192 + channel) ∷ value ∷ []
bytes_of NoteOn channel key value = (144 + channel) ∷ key ∷ value ∷ []

-- The place of each kind among the events of one tick. Not in ABC 2.1.
abbrev pub class_in : VoiceEventKind → ℕ
class_in NoteOff = 1
class_in ProgramChange = 2
class_in NoteOn = 3

-- Whether events of these kinds begin a note and end one.
abbrev pub is_note : VoiceEventKind → VoiceEventKind → Bool
is_note NoteOn NoteOff = true
is_note _ _ = false

-- The event on a channel.
abbrev pub event_at : ℕ → VoiceEvent → Event
event_at channel event =
    record {
      tick = event.tick;
      class = class_in event.kind;
      key = event.key;
      bytes = bytes_of event.kind channel event.key event.value;
    }

-- A note begins and ends, with the release velocity 64, unless both fall on one tick: then it is not written. Not in ABC 2.1.
abbrev pub ends_of : Sounding → List VoiceEvent
ends_of note =
    if tick_at note.on.0 == tick_at note.off.0 then [] else
    record { tick = tick_at note.on.0; kind = NoteOn; key = note.key; value = note.velocity }
    ∷ record { tick = tick_at note.off.0; kind = NoteOff; key = note.key; value = 64 } ∷ []

-- A change of program, at the tick of its moment. Not in ABC 2.1.
abbrev pub change_of : VoiceProgram → VoiceEvent
change_of change = record { tick = tick_at change.at.0; kind = ProgramChange; key = 0; value = change.number }

-- The notes of a voice as they begin and end.
abbrev pub all_ends : List Sounding → List VoiceEvent
all_ends notes = flat_map ends_of notes

-- The events of a voice: its programs, and its notes as they begin and end.
abbrev pub all_of : List VoiceProgram → List Sounding → List VoiceEvent
all_of programs notes = map change_of programs ++ all_ends notes
