-- The fields of a tune's body: the state after each, and what it gives.
use Rattle.std.specs.Prelude.{ℕ, Bool, false, true, if◌then◌else◌, List, [], ◌∷◌, slice_range, Option, Some, None, option_to_list}
use Rattle.std.specs.Prelude.{unwrap_or, Result, Ok, Err}
use Rattle.std.specs.Char.{is_ascii_uppercase}
use Rattle.std.specs.Option.{option_map}
use Rattle.abc_fields.specs.declared.fault_code.FaultCode.{FaultCode}
use Rattle.abc_fields.specs.declared.fault_code.FaultCode.TheVariants.{BadPart, TempoRange, TooManyVoices}
use Rattle.abc_fields.specs.declared.key.Key.{Key}
use Rattle.abc_fields.specs.declared.meter.Meter.{Meter}
use Rattle.abc_fields.specs.declared.tempo.Tempo.{Tempo}
use Rattle.abc_fields.specs.declared.voice.Voice.{Voice}
use Rattle.abc_fields.specs.Key.{key_of, key_or_empty}
use Rattle.abc_fields.specs.Meter.{meter_of}
use Rattle.abc_fields.specs.Tempo.{tempo_of}
use Rattle.abc_fields.specs.Unit.{unit_of}
use Rattle.abc_fields.specs.Voice.{voice_of}
use Rattle.abc_time.specs.declared.ratio.Ratio.{Ratio}
use Rattle.abc_bars_body.specs.declared.body.Body.{Body}
use Rattle.abc_bars_body.specs.declared.body_fields.FieldItem.{FieldItem}
use Rattle.abc_bars_header.specs.declared.field_kind.FieldKind.{FieldKind}
use Rattle.abc_bars_header.specs.declared.field_kind.FieldKind.TheVariants as kinds
use Rattle.abc_bars_items.specs.declared.item.Item.{Item}
use Rattle.abc_bars_items.specs.declared.item.Item.TheVariants as items
use Rattle.abc_bars_voice.specs.declared.voice_state.VoiceState.{VoiceState}
use Rattle.abc_bars_body.specs.Body.{here, with_here, with_current, after_part}
use Rattle.abc_bars_items.specs.Column.{column_of}
use Rattle.abc_bars_header.specs.FieldKind.{kind_of}
use Rattle.abc_bars_voice.specs.VoiceState.{without_accidentals}
use Rattle.abc_bars_voice.specs.TempoItem.{is_out_of_range, tempo_item}
use Rattle.abc_bars_voice.specs.VoiceShift.{with_properties}

-- The state after a field, and the items and the faults that it gives: at most one of each.
pub record FieldResult : Type 0 where
  pub body : Body
  pub items : List Item
  pub faults : List (ℕ × FaultCode)

-- The state after a field, and what it gives.
abbrev pub field_result_of : Body → FieldItem → FieldResult
field_result_of body given = record { body = body; items = option_to_list given.item; faults = option_to_list given.fault }

-- After a field that is accepted and gives an item.
abbrev pub accept : Body → Item → FieldResult
accept body item = record { body = body; items = item ∷ []; faults = [] }

-- After a field that has no effect and gives nothing.
abbrev pub without_effect : Body → FieldResult
without_effect body = record { body = body; items = []; faults = [] }

-- After a field that is refused and gives no item.
abbrev pub refuse : Body → ℕ → FaultCode → FieldResult
refuse body place fault = record { body = body; items = []; faults = (column_of place, fault) ∷ [] }

-- After a field that gives an item though it has a fault.
abbrev pub accept_with_fault : Body → ℕ → Item → FaultCode → FieldResult
accept_with_fault body place item fault = record { body = body; items = item ∷ []; faults = (column_of place, fault) ∷ [] }

-- The part that a value names: its first byte, a capital letter. ABC 2.1 section 3.1.9; that the rest is
-- ignored is not in ABC 2.1.
abbrev pub part_of : List ℕ → Option ℕ
part_of [] = None
part_of (byte ∷ rest) = if is_ascii_uppercase byte then Some byte else None

-- After a P: that names this part, or none.
abbrev pub part_by : Body → ℕ → Option ℕ → FieldResult
part_by body place None = refuse body place BadPart
part_by body place (Some letter) = accept (after_part body) (items.Section letter)

-- After an M: that says this meter, or is refused.
abbrev pub meter_by : Body → ℕ → Result Meter FaultCode → FieldResult
meter_by body place (Ok meter) = accept (with_here body (record (here body) { meter = meter })) (items.Meter false (Some meter))
meter_by body place (Err fault) = accept_with_fault body place (items.Meter false None) fault

-- After an L: that says this unit note length, or is refused.
abbrev pub unit_by : Body → ℕ → Result Ratio FaultCode → FieldResult
unit_by body place (Ok unit) = without_effect (with_here body (record (here body) { unit = unit }))
unit_by body place (Err fault) = refuse body place fault

-- After a Q: that says this tempo.
abbrev pub tempo_at : Body → ℕ → Tempo → FieldResult
tempo_at body place tempo =
    if is_out_of_range (here body).unit tempo then accept_with_fault body place (tempo_item false (here body).unit tempo) TempoRange
    else accept body (tempo_item false (here body).unit tempo)

-- After a Q: that says this tempo, or is refused.
abbrev pub tempo_by : Body → ℕ → Result Tempo FaultCode → FieldResult
tempo_by body place (Ok tempo) = tempo_at body place tempo
tempo_by body place (Err fault) = accept_with_fault body place (items.Tempo false None false) fault

-- The state of a voice after a K:: no accidentals, the signature if the key has one, and the shift with
-- what the key says of it.
abbrev pub in_key : VoiceState → Key → VoiceState
in_key state key = record (without_accidentals state) {
  signature = unwrap_or key.signature state.signature;
  shift = with_properties state.shift key.shift;
}

-- What a key gives to the score: its sharps and whether it is minor, if it has a signature.
abbrev pub key_item : Key → Item
key_item key = items.Key false (option_map (λ signature. (key.sharps, key.minor)) key.signature)

-- After a K: that says this key, or is refused, which sets an empty signature.
abbrev pub key_by : Body → ℕ → Result Key FaultCode → FieldResult
key_by body place (Ok key) = accept (with_here body (in_key (here body) key)) (key_item key)
key_by body place (Err fault) =
    let key = key_or_empty (Err fault) in
    accept_with_fault (with_here body (in_key (here body) key)) place (key_item key) fault

-- After a V: of this name: with the body in which its voice is the current one, or with none if it is one voice too many.
abbrev pub named_voice_by : Body → ℕ → List ℕ → Option Body → FieldResult
named_voice_by body place name (Some after) = accept after (items.Voice false name)
named_voice_by body place name None = refuse body place TooManyVoices

-- After a V: whose value names a voice, or is refused.
abbrev pub voice_by : Body → ℕ → List ℕ → Result Voice FaultCode → FieldResult
voice_by body place value (Ok voice) =
    let name = slice_range value voice.from voice.to in
    named_voice_by body place name (with_current body name voice.shift)
voice_by body place value (Err fault) = refuse body place fault

-- After a field of this kind with this value, at this place of its line.
abbrev pub kind_result : Body → FieldKind → List ℕ → ℕ → FieldResult
kind_result body kinds.Parts value place = part_by body place (part_of value)
kind_result body kinds.Meter value place = meter_by body place (meter_of value)
kind_result body kinds.UnitLength value place = unit_by body place (unit_of value)
kind_result body kinds.Tempo value place = tempo_by body place (tempo_of value)
kind_result body kinds.Key value place = key_by body place (key_of value)
kind_result body kinds.Voice value place = voice_by body place value (voice_of value)
kind_result body _ value place = without_effect body

-- Whether fields of this kind have an effect in a body.
abbrev pub has_effect : FieldKind → Bool
has_effect kinds.Reference = false
has_effect kinds.Title = false
has_effect kinds.Other = false
has_effect _ = true

-- After a field with this letter and value, at this place of its line. ABC 2.1 section 3.
abbrev pub field_result : Body → ℕ → List ℕ → ℕ → FieldResult
field_result body letter value place = kind_result body (kind_of letter) value place
