-- Events and their bytes (SMF 1.0). The class of each, its place at a tick, is not in ABC 2.1.
use Rattle.std.specs.Prelude.{ℕ, ◌+◌, ◌==◌, if◌then◌else◌, List, [], ◌∷◌, ◌++◌, length}
use Rattle.std.specs.Int.{w8, trailing_zeros, cast_unsigned}
use Rattle.byteorder.specs.Endian.{big_bytes}
use Rattle.abc_time.specs.Grains.{tick_at}
use Rattle.smf_bytes.specs.declared.event.Event.{Event}
use Rattle.abc_voices_score.specs.declared.score.Change.{Change}
use Rattle.abc_voices_score.specs.declared.score.ChangeKind.{ChangeKind}
use Rattle.abc_voices_score.specs.declared.score.ChangeKind.TheVariants.{Tempo, Meter, Key}
use Rattle.abc_voices_score.specs.declared.score.ProgramChange.{ProgramChange}
use Rattle.abc_voices_score.specs.declared.score.Sounding.{Sounding}
use Rattle.smf_bytes.specs.Number.{number_text}

-- A meta event: FF, its type, the length of what it holds as a quantity, what it holds (SMF 1.0).
abbrev pub meta_event : ℕ → List ℕ → List ℕ
meta_event type content = 255 ∷ type ∷ (number_text (length content) ++ content)

-- The name of the sequence, FF 03 (SMF 1.0), if there is one; that it is at tick 0 is not in ABC 2.1.
abbrev pub title_events : List ℕ → List Event
title_events [] = []
title_events (byte ∷ bytes) = record { tick = 0; class = 1; key = 0; bytes = meta_event 3 (byte ∷ bytes) } ∷ []

-- At one tick tempo comes before meter, and meter before key. Not in ABC 2.1.
abbrev pub class_of : ChangeKind → ℕ
class_of (Tempo micros) = 2
class_of (Meter num den) = 3
class_of (Key sharps minor) = 4

-- Set tempo, FF 51: microseconds to a quarter note in 24 bits. Time signature, FF 58: the upper
-- number, the power of two of the lower one, 24 clocks to a metronome click, 8 thirty-second notes to
-- a quarter. Key signature, FF 59: sharps in two's complement, 1 for minor (SMF 1.0).
abbrev pub change_bytes : ChangeKind → List ℕ
change_bytes (Tempo micros) = meta_event 81 (big_bytes 3 micros)
change_bytes (Meter num den) = meta_event 88 (num ∷ trailing_zeros w8 den ∷ 24 ∷ 8 ∷ [])
change_bytes (Key sharps minor) = meta_event 89 (cast_unsigned w8 sharps ∷ (if minor then 1 else 0) ∷ [])

-- A change as an event, at the tick of its moment. Not in ABC 2.1.
abbrev pub change_event : Change → Event
change_event change =
    record { tick = tick_at change.at.0; class = class_of change.what; key = 0; bytes = change_bytes change.what }

-- Note off, 8c kk vv, with the release velocity 64 (MIDI 1.0; the velocity is not in ABC 2.1).
abbrev pub note_off : ℕ → ℕ → ℕ → Event
note_off channel key tick = record { tick = tick; class = 1; key = key; bytes = (128 + channel) ∷ key ∷ 64 ∷ [] }

-- Program change, Cc pp (MIDI 1.0). At one tick it comes after the notes off and before the notes on. Not in ABC 2.1.
abbrev pub program_change : ℕ → ℕ → ℕ → Event
program_change channel number tick =
    record { tick = tick; class = 2; key = 0; bytes = (192 + channel) ∷ number ∷ [] }

-- Note on, 9c kk vv, with the velocity vv (MIDI 1.0).
abbrev pub note_on : ℕ → ℕ → ℕ → ℕ → Event
note_on channel key velocity tick =
    record { tick = tick; class = 3; key = key; bytes = (144 + channel) ∷ key ∷ velocity ∷ [] }

-- A note is its on and its off, unless both fall on one tick: then it is not written. Not in ABC 2.1.
abbrev pub note_events : ℕ → Sounding → List Event
note_events channel note =
    if tick_at note.on.0 == tick_at note.off.0 then [] else
    note_on channel note.key note.velocity (tick_at note.on.0) ∷ note_off channel note.key (tick_at note.off.0) ∷ []

-- A voice's change of program as an event, at the tick of its moment. Not in ABC 2.1.
abbrev pub program_event : ℕ → ProgramChange → Event
program_event channel change = program_change channel change.number (tick_at change.at.0)

-- The end of a track, FF 2F 00 (SMF 1.0).
abbrev pub end_event : ℕ → Event
end_event tick = record { tick = tick; class = 5; key = 0; bytes = meta_event 47 [] }
