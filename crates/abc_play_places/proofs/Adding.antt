-- The items that a token of a cell adds.
use Rattle.std.proofs.Common.{◌≡◌, ℕ, Bool, true, false, cond, List, [], ◌∷◌, ◌++◌, length, refl, sym, ◌∙◌, append-nil}
use Rattle.std.specs.Bool.{⊤}
use Rattle.std.specs.Prelude.{Option, Some, None, Result, Ok, Err, is_none, slice_range}
use Rattle.abc_bars_body.specs.declared.body.Body.{Body}
use Rattle.abc_bars_body.specs.declared.cell.CellResult.{CellResult}
use Rattle.abc_bars_body.specs.Body.{after_mention, here, with_current}
use Rattle.abc_bars_body.specs.BodyFields.{accept, accept_with_fault, field_result, kind_result, part_by, part_of, meter_by, unit_by, tempo_by, key_by, voice_by, named_voice_by}
use Rattle.abc_bars_body.specs.Cell.{after_chord_mention, tie_ahead, with_fault, with_fault_if, with_field_result, with_item, with_kind, with_some_fault, with_tie, with_token}
use Rattle.abc_bars_header.specs.declared.field_kind.FieldKind.{FieldKind}
use Rattle.abc_bars_header.specs.declared.field_kind.FieldKind.TheVariants as fields
use Rattle.abc_bars_header.specs.FieldKind.{kind_of}
use Rattle.abc_bars_items.specs.declared.item.Item.{Item}
use Rattle.abc_bars_items.specs.declared.item.Item.TheVariants as items
use Rattle.abc_bars_items.specs.Program.{program_of}
use Rattle.abc_bars_notes.specs.BarRest.{bar_rest_of}
use Rattle.abc_bars_notes.specs.Broken.{factors_of, is_bad_mark}
use Rattle.abc_bars_notes.specs.Chords.{chord_builder_of}
use Rattle.abc_bars_notes.specs.TimeTokens.{chord_by, first_length}
use Rattle.abc_bars_notes.specs.declared.chords.ChordContext.{ChordContext}
use Rattle.abc_bars_notes.specs.declared.sound.ChordBuilder.{ChordBuilder}
use Rattle.abc_bars_voice.specs.declared.voice_state.VoiceState.{VoiceState}
use Rattle.abc_bars_notes.specs.TokenRole.{has_note}
use Rattle.abc_bars_voice.specs.TempoItem.{is_out_of_range, tempo_item}
use Rattle.abc_fields.specs.Key.{key_of}
use Rattle.abc_fields.specs.Meter.{meter_of}
use Rattle.abc_fields.specs.Tempo.{tempo_of}
use Rattle.abc_fields.specs.Unit.{unit_of}
use Rattle.abc_fields.specs.Voice.{voice_of}
use Rattle.abc_fields.specs.declared.fault_code.FaultCode.{FaultCode}
use Rattle.abc_fields.specs.declared.fault_code.FaultCode.TheVariants.{BadBroken, BadProgram, LooseTie, TempoRange}
use Rattle.abc_fields.specs.declared.key.Key.{Key}
use Rattle.abc_fields.specs.declared.meter.Meter.{Meter}
use Rattle.abc_fields.specs.declared.tempo.Tempo.{Tempo}
use Rattle.abc_fields.specs.declared.voice.Voice.{Voice}
use Rattle.abc_scan.specs.declared.chord.Chord.{Chord}
use Rattle.abc_scan.specs.declared.directive.Directive.TheVariants as directives
use Rattle.abc_scan.specs.declared.field.Field.{Field}
use Rattle.abc_scan.specs.declared.spanned.Spanned.{Spanned}
use Rattle.abc_scan.specs.declared.token.TokenKind.{TokenKind}
use Rattle.abc_scan.specs.declared.token.TokenKind.TheVariants as kinds
use Rattle.abc_time.specs.declared.ratio.Ratio.{Ratio}
use Rattle.abc_play_places.specs.Givers.{has_place, gives_place}
use Rattle.abc_play_places.specs.ToneGivers.{tone_parts}
use Rattle.abc_play_places.proofs.ChordTones.{tones_counted}

-- what a token of this kind gives, if it gives an item with a place: a note one tone, a chord those of its first sixteen notes
abbrev pub GivesItem : TokenKind → Item → Type 0
GivesItem (kinds.Note note) (items.Tone tones time) = length tones ≡ 1
GivesItem (kinds.Chord chord) (items.Tone tones time) = length tones ≡ length (tone_parts 0 0 chord.parts)
GivesItem (kinds.Rest written) (items.Rest time bar) = ⊤
GivesItem (kinds.BarRest bars) (items.Rest time bar) = ⊤
GivesItem (kinds.Bar line) (items.Bar other) = ⊤
GivesItem _ _ = ⊥

-- no item with a place is among these
abbrev pub NonePlaced : List Item → Type 0
NonePlaced [] = ⊤
NonePlaced (item ∷ others) = (has_place item ≡ false) × NonePlaced others

-- what a token adds: one item with a place if it gives one, else none
abbrev pub Fit : TokenKind → Bool → List Item → Type 0
Fit kind true more = (item : Item) × (more ≡ item ∷ []) × (has_place item ≡ true) × GivesItem kind item
Fit kind false more = NonePlaced more

pub record Adds (kind : TokenKind) (gives : Bool) (old new : List Item) : Type 0 where
  pub more : List Item
  pub grown : new ≡ old ++ more
  pub fits : Fit kind gives more

nothing : (kind : TokenKind) (old : List Item) → Adds kind false old old
nothing kind old = record { more = []; grown = sym (append-nil old); fits = tt }

one : (kind : TokenKind) (old : List Item) (item : Item) → has_place item ≡ true → GivesItem kind item → Adds kind true old (old ++ item ∷ [])
one kind old item h gives = record { more = item ∷ []; grown = refl; fits = (item, refl, h, gives) }

-- the items of a field have no place
tempo_unplaced : (unit : Ratio) (tempo : Tempo) → has_place (tempo_item false unit tempo) ≡ false
tempo_unplaced unit tempo = refl

part_unplaced : (body : Body) (place : ℕ) (part : Option ℕ) → NonePlaced (part_by body place part).items
part_unplaced body place None = tt
part_unplaced body place (Some letter) = (refl, tt)

meter_unplaced : (body : Body) (place : ℕ) (meter : Result Meter FaultCode) → NonePlaced (meter_by body place meter).items
meter_unplaced body place (Ok meter) = (refl, tt)
meter_unplaced body place (Err fault) = (refl, tt)

unit_unplaced : (body : Body) (place : ℕ) (unit : Result Ratio FaultCode) → NonePlaced (unit_by body place unit).items
unit_unplaced body place (Ok unit) = tt
unit_unplaced body place (Err fault) = tt

tempo_by_unplaced : (body : Body) (place : ℕ) (tempo : Result Tempo FaultCode) → NonePlaced (tempo_by body place tempo).items
tempo_by_unplaced body place (Ok tempo) = elim (is_out_of_range (here body).unit tempo) as (λ b. NonePlaced (cond b
    (accept_with_fault body place (tempo_item false (here body).unit tempo) TempoRange)
    (accept body (tempo_item false (here body).unit tempo))).items) [
      | true ↦ (tempo_unplaced (here body).unit tempo, tt)
      | false ↦ (tempo_unplaced (here body).unit tempo, tt)
    ]
tempo_by_unplaced body place (Err fault) = (refl, tt)

key_unplaced : (body : Body) (place : ℕ) (key : Result Key FaultCode) → NonePlaced (key_by body place key).items
key_unplaced body place (Ok key) = (refl, tt)
key_unplaced body place (Err fault) = (refl, tt)

named_unplaced : (body : Body) (place : ℕ) (name : List ℕ) (after : Option Body) → NonePlaced (named_voice_by body place name after).items
named_unplaced body place name (Some after) = (refl, tt)
named_unplaced body place name None = tt

voice_unplaced : (body : Body) (place : ℕ) (value : List ℕ) (voice : Result Voice FaultCode) → NonePlaced (voice_by body place value voice).items
voice_unplaced body place value (Ok voice) =
    let name = slice_range value voice.from voice.to in
    named_unplaced body place name (with_current body name voice.shift)
voice_unplaced body place value (Err fault) = tt

kind_unplaced : (body : Body) (kind : FieldKind) (value : List ℕ) (place : ℕ) → NonePlaced (kind_result body kind value place).items
kind_unplaced body fields.Parts value place = part_unplaced body place (part_of value)
kind_unplaced body fields.Meter value place = meter_unplaced body place (meter_of value)
kind_unplaced body fields.UnitLength value place = unit_unplaced body place (unit_of value)
kind_unplaced body fields.Tempo value place = tempo_by_unplaced body place (tempo_of value)
kind_unplaced body fields.Key value place = key_unplaced body place (key_of value)
kind_unplaced body fields.Voice value place = voice_unplaced body place value (voice_of value)
kind_unplaced body _ value place = tt

-- faults add no item
some_fault_items : (given : CellResult) (place : ℕ) (code : Option FaultCode) → (with_some_fault given place code).items.items ≡ given.items.items
some_fault_items given place None = refl
some_fault_items given place (Some code) = refl

fault_if_items : (given : CellResult) (is : Bool) (place : ℕ) (code : FaultCode) → (with_fault_if given is place code).items.items ≡ given.items.items
fault_if_items given true place code = refl
fault_if_items given false place code = refl

tie_items : (given : CellResult) (place : ℕ) → (with_tie given place).items.items ≡ given.items.items
tie_items given place = elim given.after_note as (λ b. (cond b given (with_fault given place LooseTie)).items.items ≡ given.items.items) [
  | true ↦ refl
  | false ↦ refl
]

same_items : (kind : TokenKind) (old new : List Item) → new ≡ old → Adds kind false old new
same_items kind old new is = record { more = []; grown = is ∙ sym (append-nil old); fits = tt }

chord_adds : (chord : Chord) (noted : Bool) (old : List Item) (state : VoiceState) (from : ℕ) (builder : ChordBuilder)
    → length builder.tones ≡ length (tone_parts 0 0 chord.parts) → Adds (kinds.Chord chord) noted old (old ++ (chord_by noted state from builder).items)
chord_adds chord true old state from builder counted = one (kinds.Chord chord) old (items.Tone builder.tones (first_length builder.tones)) refl counted
chord_adds chord false old state from builder counted = same_items (kinds.Chord chord) old (old ++ []) (append-nil old)

field_adds : (kind : TokenKind) (given : CellResult) (place : ℕ) (field : Field)
    → Adds kind false given.items.items (with_field_result given (field_result given.body field.letter field.value place)).items.items
field_adds kind given place field = record {
  more = (field_result given.body field.letter field.value place).items;
  grown = refl;
  fits = kind_unplaced given.body (kind_of field.letter) field.value place;
}

kind_adds : (given : CellResult) (place : ℕ) (kind : TokenKind) (ahead : List (Spanned TokenKind))
    → Adds kind (gives_place kind) given.items.items (with_kind given place kind ahead).items.items
kind_adds given place (kinds.Note note) ahead = one (kinds.Note note) given.items.items _ refl refl
kind_adds given place (kinds.Rest written) ahead = one (kinds.Rest written) given.items.items _ refl tt
kind_adds given place (kinds.BarRest bars) ahead =
    let body = after_mention given.body in
    let rest = bar_rest_of (here body).meter bars in
    record { more = rest.0 ∷ []; grown = some_fault_items (with_item (record given { body = body }) rest.0) place rest.1; fits = (rest.0, refl, refl, tt) }
kind_adds given place (kinds.Chord chord) ahead =
    let body = after_chord_mention (has_note chord.parts) given.body in
    let broken = factors_of given.preceding ahead in
    let context : ChordContext = record { length = chord.length; tied = tie_ahead ahead; from = place } in
    chord_adds chord (has_note chord.parts) given.items.items (here body) place (chord_builder_of (here body) broken context chord.parts)
    (tones_counted (here body) broken context chord.parts)
kind_adds given place (kinds.InlineField field) ahead = field_adds (kinds.InlineField field) given place field
kind_adds given place (kinds.Field field) ahead = field_adds (kinds.Field field) given place field
kind_adds given place (kinds.Bar bar) ahead = one (kinds.Bar bar) given.items.items (items.Bar bar) refl tt
kind_adds given place (kinds.Ending None) ahead = nothing (kinds.Ending None) given.items.items
kind_adds given place (kinds.Ending (Some passes)) ahead = record { more = items.Ending passes ∷ []; grown = refl; fits = (refl, tt) }
kind_adds given place (kinds.Tuplet mark) ahead = same_items (kinds.Tuplet mark) given.items.items _ (some_fault_items _ place _)
kind_adds given place (kinds.Broken mark) ahead = same_items (kinds.Broken mark) given.items.items _ (fault_if_items given (is_bad_mark given.preceding ahead) place BadBroken)
kind_adds given place kinds.Tie ahead = same_items kinds.Tie given.items.items _ (tie_items given place)
kind_adds given place (kinds.Dynamic dynamic) ahead = nothing (kinds.Dynamic dynamic) given.items.items
kind_adds given place (kinds.Directive (directives.Program written)) ahead = record {
  more = items.Program false (program_of written) ∷ [];
  grown = fault_if_items (with_item given (items.Program false (program_of written))) (is_none (program_of written)) place BadProgram;
  fits = (refl, tt);
}
kind_adds given place (kinds.Directive (directives.Reach reach)) ahead = nothing (kinds.Directive (directives.Reach reach)) given.items.items
kind_adds given place kinds.Unclosed ahead = nothing kinds.Unclosed given.items.items
kind_adds given place kinds.BadByte ahead = nothing kinds.BadByte given.items.items
kind_adds given place kinds.Blank ahead = nothing kinds.Blank given.items.items
kind_adds given place kinds.NoEffect ahead = nothing kinds.NoEffect given.items.items

-- what a token of a cell adds
pub token_adds : (given : CellResult) (token : Spanned TokenKind) (ahead : List (Spanned TokenKind))
    → Adds token.kind (gives_place token.kind) given.items.items (with_token given token ahead).items.items
token_adds given token ahead = kind_adds given token.from token.kind ahead
