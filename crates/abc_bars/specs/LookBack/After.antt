-- The state of a voice after one element more.
use Rattle.std.specs.Prelude.{ℕ, Bool, List, [], Option, Some, None, Result, Ok, Err}
use Rattle.abc_fields.specs.declared.fault_code.FaultCode.{FaultCode}
use Rattle.abc_fields.specs.declared.meter.Meter.{Meter}
use Rattle.abc_fields.specs.declared.voice.Voice.{Voice}
use Rattle.abc_fields.specs.Key.{key_of, key_or_empty}
use Rattle.abc_fields.specs.Meter.{meter_of}
use Rattle.abc_fields.specs.Unit.{unit_of}
use Rattle.abc_fields.specs.Voice.{voice_of}
use Rattle.abc_scan.specs.declared.token.TokenKind.{TokenKind}
use Rattle.abc_scan.specs.declared.token.TokenKind.TheVariants as kinds
use Rattle.abc_time.specs.declared.ratio.Ratio.{Ratio}
use Rattle.abc_bars_header.specs.declared.field_kind.FieldKind.{FieldKind}
use Rattle.abc_bars_header.specs.declared.field_kind.FieldKind.TheVariants as fields
use Rattle.abc_bars_voice.specs.declared.voice_state.VoiceState.{VoiceState}
use Rattle.abc_bars_body.specs.BodyFields.{in_key, part_of}
use Rattle.abc_bars_header.specs.FieldKind.{kind_of}
use Rattle.abc_bars_voice.specs.VoiceState.{without_accidentals}
use Rattle.abc_bars_notes.specs.TimeTokens.{play_chord, play_note, play_rest}
use Rattle.abc_bars_voice.specs.Tuplet.{begin_tuplet}
use Rattle.abc_bars_voice.specs.VoiceShift.{with_properties}
use Rattle.abc_bars.specs.LookBack.Element.{Element}

-- After an M: that says this meter, or is refused.
abbrev pub in_meter : VoiceState → Result Meter FaultCode → VoiceState
in_meter state (Ok meter) = record state { meter = meter }
in_meter state (Err fault) = state

-- After an L: that says this unit note length, or is refused.
abbrev pub in_unit : VoiceState → Result Ratio FaultCode → VoiceState
in_unit state (Ok unit) = record state { unit = unit }
in_unit state (Err fault) = state

-- After a P: that names this part, or none.
abbrev pub in_part : VoiceState → Option ℕ → VoiceState
in_part state (Some letter) = without_accidentals state
in_part state None = state

-- After a V: of the voice, with these properties, or that is refused.
abbrev pub in_voice : VoiceState → Result Voice FaultCode → VoiceState
in_voice state (Ok voice) = record state { shift = with_properties state.shift voice.shift }
in_voice state (Err fault) = state

-- After a field of this kind with this value.
abbrev pub after_field : VoiceState → FieldKind → List ℕ → VoiceState
after_field state fields.Meter value = in_meter state (meter_of value)
after_field state fields.UnitLength value = in_unit state (unit_of value)
after_field state fields.Key value = in_key state (key_or_empty (key_of value))
after_field state fields.Parts value = in_part state (part_of value)
after_field state fields.Voice value = in_voice state (voice_of value)
after_field state _ value = state

-- After a token of this kind, which a tie directly follows or not. Its place and the factors of broken
-- rhythm change nothing of what it leaves.
abbrev pub after_kind : VoiceState → TokenKind → Bool → VoiceState
after_kind state (kinds.Note note) tied = (play_note state [] tied 0 note).state
after_kind state (kinds.Rest length) tied = (play_rest state [] 0 length).state
after_kind state (kinds.Chord chord) tied = (play_chord state [] tied 0 chord).state
after_kind state (kinds.Tuplet mark) tied = record state { tuplet = (begin_tuplet state.meter state.tuplet mark).0 }
after_kind state (kinds.Bar bar) tied = without_accidentals state
after_kind state (kinds.InlineField field) tied = after_field state (kind_of field.letter) field.value
after_kind state (kinds.Field field) tied = after_field state (kind_of field.letter) field.value
after_kind state (kinds.Dynamic dynamic) tied = record state { dynamic = Some dynamic }
after_kind state _ tied = state

-- After one element more.
abbrev pub after : VoiceState → Element → VoiceState
after state element = after_kind state element.kind element.tied
