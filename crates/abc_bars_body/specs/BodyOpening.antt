-- The state at the beginning of a tune's body.
use Rattle.std.specs.Prelude.{ℕ, pos, List, [], ◌∷◌, map, None, unwrap_or}
use Rattle.abc_fields.specs.declared.key.Key.{Key}
use Rattle.abc_fields.specs.declared.shift.Shift.{Shift}
use Rattle.abc_fields.specs.Shift.{no_shift}
use Rattle.abc_fields.specs.Signature.{natural}
use Rattle.abc_bars_header.specs.Defaults.{meter_in, unit_in}
use Rattle.abc_bars_voice.specs.Accidentals.{no_accidentals}
use Rattle.abc_bars_voice.specs.VoiceShift.{with_properties}
use Rattle.abc_bars_body.specs.declared.body.Body.{Body}
use Rattle.abc_bars_body.specs.declared.body.Current.{Current}
use Rattle.abc_bars_body.specs.declared.body.Current.TheVariants.{Unnamed, At}
use Rattle.abc_bars_header.specs.declared.defaults.Defaults.{Defaults}
use Rattle.abc_bars_header.specs.declared.header.Header.{Header}
use Rattle.abc_bars_voice.specs.declared.voice_state.VoiceState.{VoiceState}
use Rattle.abc_bars_voice.specs.declared.voice_shift.VoiceShift.{VoiceShift}

-- The shift of a voice of which no field says any part.
abbrev pub zero_shift : VoiceShift
zero_shift = record { clef = pos 0; octave = pos 0; transpose = pos 0 }

-- The state of a voice at the beginning of a body, by the header's values, the key that ended the header, and the shift `said`
-- by the V: lines of the voice. That overrides the shift of the key. A key without a signature has an empty one there. Not in
-- ABC 2.1.
abbrev pub opening_voice_state : Defaults → Key → Shift → VoiceState
opening_voice_state defaults key said = record {
  meter = meter_in defaults;
  unit = unit_in defaults;
  signature = unwrap_or key.signature natural;
  shift = with_properties (with_properties zero_shift key.shift) said;
  accidentals = no_accidentals defaults.reach;
  tuplet = None;
  tied = [];
  dynamic = None;
}

-- The state of a declared voice at the beginning of a body.
abbrev pub opening_voice : Header → Key → List ℕ × Shift → List ℕ × VoiceState
opening_voice header key voice = (voice.0, opening_voice_state header.defaults key voice.1)

-- The states of the declared voices at the beginning of a body.
abbrev pub opening_voices : Header → Key → List (List ℕ × VoiceState)
opening_voices header key = map (opening_voice header key) header.voices

-- The current voice at the beginning of a body: the first that is declared, else the one without
-- a name. ABC 2.1 section 7.1.
abbrev pub current_in : List (List ℕ × Shift) → VoiceState → Current
current_in [] unnamed = Unnamed unnamed
current_in (first ∷ rest) unnamed = At 0

-- The state of a voice that is not mentioned, at the beginning of a body.
abbrev pub opening_another : Header → Key → VoiceState
opening_another header key = opening_voice_state header.defaults key no_shift

-- The state at the beginning of a body, by its header and the key that ended it.
abbrev pub body_from : Header → Key → Body
body_from header key = record {
  voices = opening_voices header key;
  current = current_in header.voices (opening_another header key);
  another = opening_another header key;
}
