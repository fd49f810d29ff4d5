-- Values in headers of the worked examples, and states at the beginning of their bodies. Not in ABC 2.1.
use Rattle.std.specs.Prelude.{ℕ, pos, negsuc, List, [], ◌∷◌, codes, Option}
use Rattle.abc_bars_body.specs.declared.body.Current.TheVariants.{At}
use Rattle.abc_bars_body.specs.declared.entry.Entry.{Entry}
use Rattle.abc_bars_body.specs.declared.entry.Entry.TheVariants.{Body}
use Rattle.abc_fields.specs.Signature.{natural}
use Rattle.abc_fields.specs.declared.meter.Meter.{Meter}
use Rattle.abc_fields.specs.declared.meter.Meter.TheVariants.{Free}
use Rattle.abc_fields.specs.declared.signature.Signature.{Signature}
use Rattle.abc_fields.specs.declared.tempo.Tempo.{Tempo}
use Rattle.abc_bars_header.specs.declared.defaults.Defaults.{Defaults}
use Rattle.abc_scan.specs.declared.directive.Reach.{Reach}
use Rattle.abc_scan.specs.declared.directive.Reach.TheVariants.{Pitch}
use Rattle.abc_bars_voice.specs.declared.voice_state.VoiceState.{VoiceState}
use Rattle.abc_bars_voice.specs.declared.voice_shift.VoiceShift.{VoiceShift}
use Rattle.abc_time.specs.declared.ratio.Ratio.{Ratio}
use Rattle.tests_text.specs.Bars.{voice_state_in}
use Rattle.tests_text.specs.Values.{ratio}

-- The values that a file header sets.
abbrev pub defaults : Option Meter → Option Ratio → Option Tempo → Option ℕ → Reach → Defaults
defaults meter unit tempo program reach = record { meter = meter; unit = unit; tempo = tempo; program = program; reach = reach }

-- The signature of one sharp, and of one flat.
abbrev pub in_g : Signature
in_g = record natural { f = pos 1 }

abbrev pub in_f : Signature
in_f = record natural { b = negsuc 0 }

-- The state of a voice with this signature and shift after a header that sets neither meter nor unit.
abbrev pub state_with_key : Signature → VoiceShift → VoiceState
state_with_key signature shift = record (voice_state_in Free (ratio 1 8) Pitch) { signature = signature; shift = shift }

-- The same without sharps and flats.
abbrev pub opening_state : VoiceShift → VoiceState
opening_state shift = state_with_key natural shift

-- In a body after a header that declares the voices `1` and `2`, by their shifts and by that of another voice.
abbrev pub two_voices : VoiceShift → VoiceShift → VoiceShift → Entry
two_voices first second another =
    Body (record {
      voices = (codes "1", opening_state first) ∷ (codes "2", opening_state second)
          ∷ [];
      current = At 0;
      another = opening_state another;
    })

-- A header that sets parts of the shifts of the voices `1` and `2`; its key sets other parts.
abbrev pub shifted_voices : List (List ℕ)
shifted_voices =
    codes "X:1" ∷ codes "V:1 treble-8" ∷ codes "V:2 octave=1" ∷ codes "V:1 octave=2" ∷ codes "K:C treble+8 transpose=3" ∷ []

-- Lines that declare fifteen voices.
abbrev pub fifteen_voices : List (List ℕ)
fifteen_voices = codes "V:a" ∷ codes "V:b" ∷ codes "V:c" ∷ codes "V:d" ∷ codes "V:e" ∷ codes "V:f" ∷ codes "V:g" ∷ codes "V:h"
    ∷ codes "V:i" ∷ codes "V:j" ∷ codes "V:k" ∷ codes "V:l" ∷ codes "V:m" ∷ codes "V:n" ∷ codes "V:o" ∷ []
