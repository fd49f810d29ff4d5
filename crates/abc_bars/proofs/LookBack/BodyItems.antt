-- The items of a body say that a body gives them, and none is a title.
use Rattle.std.proofs.Common.{◌≡◌, ◌∙◌, ℕ, Bool, true, false, cond, List, [], ◌∷◌, ◌++◌, Option, Some, None, Result, Ok, Err, slice_range, refl, sym, ap, subst}
use Rattle.std.specs.Prelude.{filter}
use Rattle.std.specs.List.{AllByRecursion, cons_option}
use Rattle.abc_fields.specs.declared.fault_code.FaultCode.{FaultCode}
use Rattle.abc_fields.specs.declared.fault_code.FaultCode.TheVariants.{TempoRange}
use Rattle.abc_fields.specs.Key.{key_of}
use Rattle.abc_fields.specs.Meter.{meter_of}
use Rattle.abc_fields.specs.Tempo.{tempo_of}
use Rattle.abc_fields.specs.Unit.{unit_of}
use Rattle.abc_fields.specs.Voice.{voice_of}
use Rattle.abc_scan.specs.declared.directive.Directive.TheVariants as directives
use Rattle.abc_scan.specs.declared.spanned.Spanned.{Spanned}
use Rattle.abc_scan.specs.declared.token.TokenKind.{TokenKind}
use Rattle.abc_scan.specs.declared.token.TokenKind.TheVariants as kinds
use Rattle.abc_bars_header.specs.FieldKind.{kind_of}
use Rattle.abc_bars_header.specs.declared.field_kind.FieldKind.{FieldKind}
use Rattle.abc_bars_header.specs.declared.field_kind.FieldKind.TheVariants as fields
use Rattle.abc_bars_items.specs.declared.item.Item.{Item}
use Rattle.abc_bars_voice.specs.declared.voice_state.VoiceState.{VoiceState}
use Rattle.abc_bars_voice.specs.TempoItem.{is_out_of_range, tempo_item}
use Rattle.abc_bars_notes.specs.declared.broken.Preceding.{Preceding}
use Rattle.abc_bars_notes.specs.declared.sound.ChordBuilder.{ChordBuilder}
use Rattle.abc_bars_notes.specs.TimeTokens.{chord_by}
use Rattle.abc_bars_notes.specs.TokenRole.{has_note}
use Rattle.abc_bars_body.specs.declared.body.Body.{Body}
use Rattle.abc_bars_body.specs.declared.cell.CellResult.{CellResult}
use Rattle.abc_bars_body.specs.Body.{here, with_current}
use Rattle.abc_bars_body.specs.BodyFields.{FieldResult, accept, accept_with_fault, kind_result, meter_by, key_by, part_by, part_of, tempo_by, unit_by, voice_by, named_voice_by}
use Rattle.abc_bars_body.specs.Cell.{with_kind}
use Rattle.abc_bars.specs.LookBack.Flags.{is_of_header}
use Rattle.abc_bars.specs.Titles.{title_said, titles_said}
use Rattle.abc_bars.proofs.LookBack.TokenResults.{items_added, token_items}

-- An item is of a body and no title.
abbrev pub IsOfBody : Item → Type 0
IsOfBody item = (is_of_header item ≡ false) × (title_said item ≡ None)

abbrev pub AreOfBody : List Item → Type 0
AreOfBody given = AllByRecursion IsOfBody given

-- Nothing of it says that a header gives it, and no title is said.
pub none_of_header : (given : List Item) → AreOfBody given → filter is_of_header given ≡ []
none_of_header [] all = refl
none_of_header (item ∷ given) all =
    ap (λ b. cond b (item ∷ filter is_of_header given) (filter is_of_header given)) all.0.0 ∙ none_of_header given all.1

pub no_title : (given : List Item) → AreOfBody given → titles_said given ≡ []
no_title [] all = refl
no_title (item ∷ given) all = ap (λ (o : Option (List ℕ)). cons_option o (titles_said given)) all.0.1 ∙ no_title given all.1

-- Such items after others.
more : (tune others : List Item) → AreOfBody tune → AreOfBody others → AreOfBody (tune ++ others)
more [] others h k = k
more (item ∷ tune) others h k = (h.0, more tune others h.1 k)

-- Of a field that is read or refused.
of-read : {V : Type 0} (r : Result V FaultCode) (given : Result V FaultCode → FieldResult) → ((v : V) → AreOfBody (given (Ok v)).items)
    → ((fault : FaultCode) → AreOfBody (given (Err fault)).items) → AreOfBody (given r).items
of-read (Ok v) given accepted refused = accepted v
of-read (Err fault) given accepted refused = refused fault

of-part : (body : Body) (place : ℕ) (part : Option ℕ) → AreOfBody (part_by body place part).items
of-part body place None = tt
of-part body place (Some letter) = ((refl, refl), tt)

of-made : (body : Body) (place : ℕ) (name : List ℕ) (made : Option Body) → AreOfBody (named_voice_by body place name made).items
of-made body place name (Some made) = ((refl, refl), tt)
of-made body place name None = tt

of-range : (body : Body) (place : ℕ) (item : Item) (out : Bool) → IsOfBody item → AreOfBody (cond out (accept_with_fault body place item TempoRange) (accept body item)).items
of-range body place item true is = (is, tt)
of-range body place item false is = (is, tt)

of-field : (body : Body) (kind : FieldKind) (value : List ℕ) (place : ℕ) → AreOfBody (kind_result body kind value place).items
of-field body fields.Parts value place = of-part body place (part_of value)
of-field body fields.Meter value place = of-read (meter_of value) (λ r. meter_by body place r) (λ _. ((refl, refl), tt)) (λ _. ((refl, refl), tt))
of-field body fields.UnitLength value place = of-read (unit_of value) (λ r. unit_by body place r) (λ _. tt) (λ _. tt)
of-field body fields.Tempo value place =
    of-read (tempo_of value) (λ r. tempo_by body place r)
    (λ tempo. of-range body place (tempo_item false (here body).unit tempo) (is_out_of_range (here body).unit tempo) (refl, refl)) (λ _. ((refl, refl), tt))
of-field body fields.Key value place = of-read (key_of value) (λ r. key_by body place r) (λ _. ((refl, refl), tt)) (λ _. ((refl, refl), tt))
of-field body fields.Voice value place =
    of-read (voice_of value) (λ r. voice_by body place value r)
    (λ voice.
    let name : List ℕ = slice_range value voice.from voice.to in
    of-made body place name (with_current body name voice.shift))
    (λ _. tt)
of-field body _ value place = tt

of-chord : (b : Bool) (state : VoiceState) (place : ℕ) (inside : ChordBuilder) → AreOfBody (chord_by b state place inside).items
of-chord true state place inside = ((refl, refl), tt)
of-chord false state place inside = tt

of-token : (body : Body) (preceding : Preceding) (from : ℕ) (kind : TokenKind) (ahead : List (Spanned TokenKind)) → AreOfBody (token_items body preceding from kind ahead)
of-token body preceding from (kinds.Note note) ahead = ((refl, refl), tt)
of-token body preceding from (kinds.Rest long) ahead = ((refl, refl), tt)
of-token body preceding from (kinds.BarRest bars) ahead = ((refl, refl), tt)
of-token body preceding from (kinds.Chord chord) ahead = of-chord (has_note chord.parts) _ from _
of-token body preceding from (kinds.InlineField field) ahead = of-field body (kind_of field.letter) field.value from
of-token body preceding from (kinds.Field field) ahead = of-field body (kind_of field.letter) field.value from
of-token body preceding from (kinds.Bar bar) ahead = ((refl, refl), tt)
of-token body preceding from (kinds.Ending (Some passes)) ahead = ((refl, refl), tt)
of-token body preceding from (kinds.Directive (directives.Program written)) ahead = ((refl, refl), tt)
of-token body preceding from _ ahead = tt

-- So it is after a token.
pub of_kind : (given : CellResult) (from : ℕ) (kind : TokenKind) (ahead : List (Spanned TokenKind)) → AreOfBody given.items.items
    → AreOfBody (with_kind given from kind ahead).items.items
of_kind given from kind ahead h =
    subst AreOfBody (sym (items_added given from kind ahead))
    (more given.items.items (token_items given.body given.preceding from kind ahead) h (of-token given.body given.preceding from kind ahead))
