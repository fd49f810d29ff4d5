-- Tracks as chunks (SMF 1.0).
use Rattle.std.specs.Prelude.{ℕ, ◌+◌, ◌-◌, ◌≤◌, nat_lt, if◌then◌else◌, List, [], ◌∷◌, ◌++◌, length, flat_map, map, codes}
use Rattle.byteorder.specs.Endian.{big_bytes}
use Rattle.smf_bytes.specs.declared.event.Event.{Event}
use Rattle.abc_voices_score.specs.declared.score.Change.{Change}
use Rattle.abc_voices_score.specs.declared.score.ProgramChange.{ProgramChange}
use Rattle.abc_voices_score.specs.declared.score.Sounding.{Sounding}
use Rattle.smf_bytes.specs.Number.{number_text}
use Rattle.smf_bytes.specs.Order.{in_order}
use Rattle.smf_bytes.specs.Event.{title_events, change_event, note_events, program_event, end_event}

-- A chunk: four bytes that say its type, its length in 32 bits, its bytes (SMF 1.0).
abbrev pub chunk : List ℕ → List ℕ → List ℕ
chunk type body = type ++ big_bytes 4 (length body) ++ body

-- Each event after its delta time, the ticks since the one before it as a quantity (SMF 1.0).
abbrev pub timed_events : ℕ → List Event → List ℕ
timed_events before [] = []
timed_events before (event ∷ events) = number_text (event.tick - before) ++ event.bytes ++ timed_events event.tick events

-- From a tick on, no event is earlier than the one before it, and none is later than `end`.
abbrev pub Follows : ℕ → ℕ → List Event → Type 0
Follows end before [] = before ≤ end
Follows end before (event ∷ events) = (before ≤ event.tick) × (event.tick ≤ end) × Follows end event.tick events

-- The tick of the last event, or `before` if there is none.
abbrev pub tick_after : ℕ → List Event → ℕ
tick_after before [] = before
tick_after before (event ∷ events) = tick_after event.tick events

-- The events in their order, and at last the end of the track.
unfoldable pub track_body : ℕ → List Event → List ℕ
track_body end events = timed_events 0 (in_order events ++ end_event end ∷ [])

-- A track is a chunk of the type MTrk (SMF 1.0).
unfoldable pub track : ℕ → List Event → List ℕ
track end events = chunk (codes "MTrk") (track_body end events)

-- The events of the first track: the title, and the changes of tempo, meter and key.
abbrev pub conductor_events : List ℕ → List Change → List Event
conductor_events title changes = title_events title ++ map change_event changes

-- The events of a voice, on a channel: its changes of program, and its notes.
abbrev pub voice_events : ℕ → List ProgramChange → List Sounding → List Event
voice_events channel programs notes = map (program_event channel) programs ++ flat_map (note_events channel) notes

-- Voices take the channels in turn from 0, without the tenth, which is for percussion (General MIDI).
abbrev pub channel_of : ℕ → ℕ
channel_of voice = if nat_lt voice 9 then voice else voice + 1
