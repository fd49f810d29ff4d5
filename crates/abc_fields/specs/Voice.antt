-- The voice of a field V:. ABC 2.1 section 7.1.
use Rattle.std.specs.Prelude.{ℕ, Option, Result, List, drop}
use Rattle.std.specs.Option.{ok_or, option_and_then, option_map}
use Rattle.abc_fields.specs.declared.fault_code.FaultCode.{FaultCode}
use Rattle.abc_fields.specs.declared.fault_code.FaultCode.TheVariants.{BadVoice}
use Rattle.abc_fields.specs.declared.voice.Voice.{Voice}
use Rattle.abc_text.specs.Word.{first_word, words_of}
use Rattle.abc_fields.specs.Shift.{shift_of}

-- The voice at a place of a text, if the words after it set a shift.
abbrev pub voice_at : List ℕ → ℕ × ℕ → Option Voice
voice_at text place =
    option_map (λ shift. record { from = place.0; to = place.1; shift = shift }) (shift_of (words_of (drop place.1 text)))

-- The voice that a text spells.
unfoldable pub voice_in : List ℕ → Option Voice
voice_in text = option_and_then (voice_at text) (first_word text)

-- The voice that a text spells, or its fault.
unfoldable pub voice_of : List ℕ → Result Voice FaultCode
voice_of text = ok_or (voice_in text) BadVoice
