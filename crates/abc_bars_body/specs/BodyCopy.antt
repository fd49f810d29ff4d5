-- Copies of a body, as they are stored.
use Rattle.std.specs.Prelude.{Bool, false, true, Option, None, Some}
use Rattle.abc_bars_body.specs.Body.{with_here}
use Rattle.abc_bars_body.specs.declared.body.Body.{Body}
use Rattle.abc_bars_body.specs.declared.body.Current.{Current}
use Rattle.abc_bars_body.specs.declared.body.Current.TheVariants.{Unnamed, At}
use Rattle.abc_bars_body.specs.declared.body_copy.BodyStorage.{BodyStorage}
use Rattle.abc_bars_body.specs.declared.body_copy.BodyStorage.TheVariants as storages
use Rattle.abc_bars_voice.specs.declared.voice_state.VoiceState.{VoiceState}

-- The body with another state of its current voice, if there is one.
abbrev pub with_changed : Body → Option VoiceState → Body
with_changed body None = body
with_changed body (Some here) = with_here body here

-- The stored body.
abbrev pub stored_body : BodyStorage → Body
stored_body (storages.Borrowed body here) = with_changed body here
stored_body (storages.Owned body) = body.value

-- Whether the current voice is at an index: then it is mentioned.
abbrev pub is_at_index : Current → Bool
is_at_index (Unnamed state) = false
is_at_index (At place) = true

-- Whether a quick test finds that the current voice is mentioned: in a shared body, and never in an owned one.
abbrev pub is_surely_mentioned : BodyStorage → Bool
is_surely_mentioned (storages.Borrowed body here) = is_at_index body.current
is_surely_mentioned (storages.Owned body) = false

-- Nothing of it is shared.
abbrev pub IsOwned : BodyStorage → Type 0
IsOwned (storages.Borrowed body here) = ⊥
IsOwned (storages.Owned body) = Unit {0}

-- The storage with another body, if nothing of it is shared.
abbrev pub with_own : BodyStorage → Body → BodyStorage
with_own (storages.Borrowed body here) other = storages.Borrowed body here
with_own (storages.Owned body) other = storages.Owned (record body { value = other })
