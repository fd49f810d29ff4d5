-- The voices with which a body begins.
use Rattle.std.proofs.Common.{◌≡◌, ℕ, List, [], ◌∷◌, map, refl, ap}
use Rattle.std.specs.Map.{keys_of}
use Rattle.abc_fields.specs.declared.key.Key.{Key}
use Rattle.abc_fields.specs.declared.shift.Shift.{Shift}
use Rattle.abc_bars_body.specs.BodyOpening.{opening_voice, opening_voices}
use Rattle.abc_bars_header.specs.declared.header.Header.{Header}

-- Their names are those of the voices that were declared.
same_names : (header : Header) (key : Key) (voices : List (List ℕ × Shift)) → keys_of (map (opening_voice header key) voices) ≡ keys_of voices
same_names header key [] = refl
same_names header key (voice ∷ voices) = ap (λ names. voice.0 ∷ names) (same_names header key voices)

-- A body begins with the voices that its header declares.
pub opening_names : (header : Header) (key : Key) → keys_of (opening_voices header key) ≡ keys_of header.voices
opening_names header key = same_names header key header.voices
