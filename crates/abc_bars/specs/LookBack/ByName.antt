-- The state of a voice of a tune's body, by names. The current voice at a place is that of the last accepted V: before it that is
-- not one voice too many. Before any such V: it is the first voice that the header declares, or the one without a name. The tokens
-- of a voice are each accepted V: that names it, each accepted P:, and each other token while it is the current voice. ABC 2.1
-- section 7.1; that a P: is every voice's, and the limit, are not in ABC 2.1.
use Rattle.std.specs.Prelude.{ℕ, Bool, true, if◌then◌else◌, List, [], ◌∷◌, slice_range, bytes_eq, Option, Some, None, unwrap_or}
use Rattle.std.specs.Prelude.{Result, Ok, Err}
use Rattle.std.specs.List.{list_any}
use Rattle.std.specs.Map.{keys_of}
use Rattle.std.specs.Option.{option_and_then}
use Rattle.abc_fields.specs.declared.fault_code.FaultCode.{FaultCode}
use Rattle.abc_fields.specs.declared.voice.Voice.{Voice}
use Rattle.abc_fields.specs.Voice.{voice_of}
use Rattle.abc_scan.specs.declared.field.Field.{Field}
use Rattle.abc_scan.specs.declared.token.TokenKind.{TokenKind}
use Rattle.abc_bars_body.specs.declared.body.Body.{Body}
use Rattle.abc_bars_header.specs.declared.field_kind.FieldKind.{FieldKind}
use Rattle.abc_bars_header.specs.declared.field_kind.FieldKind.TheVariants as fields
use Rattle.abc_bars_voice.specs.declared.voice_state.VoiceState.{VoiceState}
use Rattle.abc_bars_body.specs.BodyFields.{part_of}
use Rattle.abc_bars_header.specs.FieldKind.{kind_of}
use Rattle.abc_bars_header.specs.Voices.{place_of, voice_at}
use Rattle.abc_bars.specs.LookBack.AfterBody.{mentions}
use Rattle.abc_bars.specs.LookBack.Element.{Element, field_of}
use Rattle.abc_bars.specs.LookBack.Header.{with_name}
use Rattle.abc_bars.specs.LookBack.Voice.{voice_state_at}

-- Whose a token is.
pub data Owner : Type 0 where
  -- The voice of this name's, which a V: makes the current one.
  Named : List ℕ → Owner
  -- Every voice's.
  Everyone : Owner
  -- The current voice's.
  Current : Owner

-- A V: is the voice's that it names, if it is accepted.
abbrev pub owner_of_voice : List ℕ → Result Voice FaultCode → Owner
owner_of_voice value (Ok voice) = Named (slice_range value voice.from voice.to)
owner_of_voice value (Err fault) = Current

-- A P: is every voice's, if it is accepted.
abbrev pub owner_of_part : Option ℕ → Owner
owner_of_part (Some letter) = Everyone
owner_of_part None = Current

abbrev pub owner_of_field : FieldKind → List ℕ → Owner
owner_of_field fields.Voice value = owner_of_voice value (voice_of value)
owner_of_field fields.Parts value = owner_of_part (part_of value)
owner_of_field _ value = Current

-- A token that is no field is the current voice's.
abbrev pub owner_by : Option Field → Owner
owner_by None = Current
owner_by (Some field) = owner_of_field (kind_of field.letter) field.value

abbrev pub owner_of : TokenKind → Owner
owner_of kind = owner_by (field_of kind)

-- The names of the voices that are mentioned before a place, in order, and that of the current one.
pub record NamedVoices : Type 0 where
  pub names : List (List ℕ)
  pub current : List ℕ

-- The names after a token, which mentions its voice or not.
abbrev pub names_following : NamedVoices → Owner → Bool → List (List ℕ)
names_following naming (Named name) sounds = with_name naming.names name
names_following naming Everyone sounds = naming.names
names_following naming Current sounds = if sounds then with_name naming.names naming.current else naming.names

-- The name of the current voice after a token, with these mentioned after it.
abbrev pub current_after : List (List ℕ) → Owner → List ℕ → List ℕ
current_after names (Named name) current = if list_any (bytes_eq name) names then name else current
current_after names Everyone current = current
current_after names Current current = current

abbrev pub naming_after : NamedVoices → Owner → Bool → NamedVoices
naming_after naming owner sounds =
    let names = names_following naming owner sounds in
    record { names = names; current = current_after names owner naming.current }

-- The first of the names, or none.
abbrev pub first_name : List (List ℕ) → List ℕ
first_name [] = []
first_name (name ∷ names) = name

-- The names at the beginning of a body.
abbrev pub opening_naming : Body → NamedVoices
opening_naming opening = record { names = keys_of opening.voices; current = first_name (keys_of opening.voices) }

-- The names at a place.
abbrev pub naming_at : Body → List Element → NamedVoices
naming_at opening [] = opening_naming opening
naming_at opening (element ∷ before) = naming_after (naming_at opening before) (owner_of element.kind) (mentions element.kind)

-- Whether a token belongs to the voice `name` while `current` is the current voice.
abbrev pub is_owned_by : List ℕ → List ℕ → Owner → Bool
is_owned_by name current (Named owner) = bytes_eq name owner
is_owned_by name current Everyone = true
is_owned_by name current Current = bytes_eq name current

-- The tokens of the voice of this name before a place, newest first.
abbrev pub tokens_of : Body → List ℕ → List Element → List Element
tokens_of opening name [] = []
tokens_of opening name (element ∷ before) =
    if is_owned_by name (naming_at opening before).current (owner_of element.kind) then element ∷ tokens_of opening name before
    else tokens_of opening name before

-- The state of the voice of this name at the beginning of the body.
abbrev pub opening_of : Body → List ℕ → VoiceState
opening_of opening name = unwrap_or (option_and_then (voice_at opening.voices) (place_of name opening.voices)) opening.another

-- The state of the voice of this name at a place.
abbrev pub voice_state_named : Body → List ℕ → List Element → VoiceState
voice_state_named opening name before = voice_state_at (opening_of opening name) (tokens_of opening name before)
