-- The notes one letter higher and lower than a note.
use Rattle.std.specs.Prelude.{ℕ, ℤ, pos, negsuc, ◌+ℤ◌, ◌-ℤ◌, if◌then◌else◌, Option, Some, None}
use Rattle.std.specs.Option.{option_map, option_and_then}
use Rattle.std.specs.Ordering.{int_eq}
use Rattle.abc_text.specs.declared.letter.Letter.{Letter}
use Rattle.abc_text.specs.declared.letter.Letter.TheVariants.{C, D, E, F, G, A, B}
use Rattle.abc_scan.specs.declared.note.Note.{Note}
use Rattle.abc_bars_voice.specs.declared.voice_state.VoiceState.{VoiceState}
use Rattle.abc_marks_cells.specs.Keys.{untied_key}

-- The next letter of the scale. ABC 2.1 section 4.1.
abbrev pub letter_above : Letter → Letter
letter_above C = D
letter_above D = E
letter_above E = F
letter_above F = G
letter_above G = A
letter_above A = B
letter_above B = C

-- The letter before in the scale.
abbrev pub letter_below : Letter → Letter
letter_below C = B
letter_below D = C
letter_below E = D
letter_below F = E
letter_below G = F
letter_below A = G
letter_below B = A

-- The octave of the next letter: each octave begins with a C. None after the last octave that a note can have.
abbrev pub octave_above : Letter → ℤ → Option ℤ
octave_above B octave = if int_eq octave (pos 2147483647) then None else Some (octave +ℤ pos 1)
octave_above _ octave = Some octave

-- The octave of the letter before. None before the first octave that a note can have.
abbrev pub octave_below : Letter → ℤ → Option ℤ
octave_below C octave = if int_eq octave (negsuc 2147483647) then None else Some (octave -ℤ pos 1)
octave_below _ octave = Some octave

-- The unmarked note one letter higher.
abbrev pub note_above : Note → Option Note
note_above note = option_map
    (λ octave. record { accidental = None; letter = letter_above note.letter; octave = octave; length = note.length })
    (octave_above note.letter note.octave)

-- The unmarked note one letter lower.
abbrev pub note_below : Note → Option Note
note_below note = option_map
    (λ octave. record { accidental = None; letter = letter_below note.letter; octave = octave; length = note.length })
    (octave_below note.letter note.octave)

-- The keys of the unmarked notes one letter higher and lower.
abbrev pub key_above : VoiceState → Note → Option ℕ
key_above state note = option_and_then (untied_key state) (note_above note)

abbrev pub key_below : VoiceState → Note → Option ℕ
key_below state note = option_and_then (untied_key state) (note_below note)
