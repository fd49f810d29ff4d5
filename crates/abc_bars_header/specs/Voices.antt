-- Voices in the order in which they were mentioned, each with its name and a value.
use Rattle.std.specs.Prelude.{ℕ, List, Option, position, slice_get, bytes_eq}
use Rattle.std.specs.Map.{keys_of, values_of}
use Rattle.indexmap.specs.Layout.{set_value_at}

-- The index of the voice with this name.
abbrev pub place_of : {S : Type 0} → List ℕ → List (List ℕ × S) → Option ℕ
place_of name voices = position (bytes_eq name) (keys_of voices)

-- The value of the voice at an index.
abbrev pub voice_at : {S : Type 0} → List (List ℕ × S) → ℕ → Option S
voice_at voices at = slice_get (values_of voices) at

-- The voices with another value at an index; if there is no voice, nothing changes.
abbrev pub with_voice_at : {S : Type 0} → List (List ℕ × S) → ℕ → S → List (List ℕ × S)
with_voice_at voices at known = set_value_at voices at known
