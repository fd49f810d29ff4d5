-- The state at a place of a tune's body: for each voice that is mentioned before it what its own tokens leave, by
-- names. Voices are in the order of their mention.
use Rattle.std.specs.Prelude.{ℕ, ◌≡◌, ◌<◌, List, [], length, map, position, bytes_eq, Option, Some, None}
use Rattle.std.specs.Map.{keys_of}
use Rattle.abc_bars_body.specs.declared.body.Body.{Body}
use Rattle.abc_bars_body.specs.declared.body.Current.{Current}
use Rattle.abc_bars_body.specs.declared.body.Current.TheVariants.{Unnamed, At}
use Rattle.abc_bars_voice.specs.declared.voice_state.VoiceState.{VoiceState}
use Rattle.abc_bars.specs.LookBack.ByName.{NamedVoices, naming_at, voice_state_named}
use Rattle.abc_bars.specs.LookBack.Element.{Element}

-- The voices at a place: their names in the order of their mention, and the place of the current one among
-- them, if it is mentioned.
pub record VoiceList : Type 0 where
  pub names : List (List ℕ)
  pub current : Option ℕ

-- The place of the voice that is the current one, if it is mentioned.
abbrev pub place_of_current : Current → Option ℕ
place_of_current (Unnamed state) = None
place_of_current (At place) = Some place

-- The voices of a body.
abbrev pub voice_list_of : Body → VoiceList
voice_list_of body = record { names = keys_of body.voices; current = place_of_current body.current }

-- The current voice is one of those that are mentioned, or the one without a name as long as none is.
abbrev pub IsPlaced : List (List ℕ) → Option ℕ → Type 0
IsPlaced names None = names ≡ []
IsPlaced names (Some place) = place < length names

-- The current voice, which is this one or the one without a name.
abbrev pub current_by : Option ℕ → VoiceState → Current
current_by None state = Unnamed state
current_by (Some place) state = At place

-- What holds for each of the voices of these names.
abbrev pub each_named : (List ℕ → VoiceState) → List (List ℕ) → List (List ℕ × VoiceState)
each_named known names = map (λ name. (name, known name)) names

-- The state at a place with these mentioned names: that of the current voice has its place among them, or there
-- are none.
abbrev pub body_by : NamedVoices → (List ℕ → VoiceState) → VoiceState → Body
body_by naming known another = record {
  voices = each_named known naming.names;
  current = current_by (position (bytes_eq naming.current) naming.names) (known []);
  another = another;
}

-- The state at a place.
unfoldable pub body_at : Body → List Element → Body
body_at opening before = body_by (naming_at opening before) (λ name. voice_state_named opening name before) opening.another
