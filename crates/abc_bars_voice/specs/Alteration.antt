-- By how many semitones notes are altered. ABC 2.1 sections 4.2 and 4.11.
use Rattle.std.specs.Prelude.{Bool, ◌&&◌, ◌==◌, ℤ, Option, Some, None, List, find, reverse, unwrap_or}
use Rattle.std.specs.Option.{option_map}
use Rattle.std.specs.Ordering.{int_eq}
use Rattle.abc_text.specs.Accidental.{alteration as accidental_alteration}
use Rattle.abc_text.specs.Letter.{capital}
use Rattle.abc_fields.specs.Signature.{alteration as signature_alteration}
use Rattle.abc_scan.specs.declared.note.Note.{Note}
use Rattle.abc_bars_voice.specs.declared.accidentals.Accidentals.{Accidentals}
use Rattle.abc_bars_voice.specs.declared.voice_state.VoiceState.{VoiceState}
use Rattle.abc_bars_voice.specs.declared.tied_note.TiedNote.{TiedNote}
use Rattle.abc_bars_voice.specs.Accidentals.{with_accidental, written_on}

-- The alteration of the note's own accidental, if it has one.
abbrev pub own_alteration : Note → Option ℤ
own_alteration note = option_map accidental_alteration note.accidental

-- Whether a tied note has the letter and the octave of a note.
abbrev pub goes_on_in : Note → TiedNote → Bool
goes_on_in note tied = (capital tied.letter == capital note.letter) && int_eq tied.octave note.octave

-- The alteration of the last tied note with the letter and the octave of a note. Not in ABC 2.1.
abbrev pub tied_alteration : List TiedNote → Note → Option ℤ
tied_alteration tied note = option_map (λ t. t.alteration) (find (goes_on_in note) (reverse tied))

-- The semitones by which a note is altered. The first of these counts: its own accidental; the last one in the bar that
-- reaches it; that of the tied note with its letter and octave; the signature.
abbrev pub alteration_of : VoiceState → Accidentals → Note → ℤ
alteration_of state accidentals note =
    unwrap_or (own_alteration note)
    (unwrap_or (written_on accidentals note)
    (unwrap_or (tied_alteration state.tied note)
    (signature_alteration state.signature note.letter)))

-- The accidentals after that of one more note, if it has one.
abbrev pub with_written : Accidentals → Note → Option ℤ → Accidentals
with_written accidentals note None = accidentals
with_written accidentals note (Some by) = with_accidental accidentals note by

-- The accidentals after the own one of a note.
abbrev pub with_own : Accidentals → Note → Accidentals
with_own accidentals note = with_written accidentals note (own_alteration note)
