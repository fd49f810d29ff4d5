-- The cells of a tune's body: what the tokens of a cell give, and the state after them.
use Rattle.std.specs.Prelude.{ℕ, Bool, true, false, if◌then◌else◌, List, [], ◌∷◌, ◌++◌, Option, Some, None, is_none}
use Rattle.abc_fields.specs.declared.fault_code.FaultCode.{FaultCode}
use Rattle.abc_fields.specs.declared.fault_code.FaultCode.TheVariants.{BadBroken, BadByte, BadEnding, BadProgram, LooseTie}
use Rattle.abc_fields.specs.declared.fault_code.FaultCode.TheVariants.{Unclosed}
use Rattle.abc_scan.specs.declared.bar_line.BarLine.{BarLine}
use Rattle.abc_scan.specs.declared.chord.Chord.{Chord}
use Rattle.abc_scan.specs.declared.directive.Directive.{Directive}
use Rattle.abc_scan.specs.declared.directive.Directive.TheVariants as directives
use Rattle.abc_scan.specs.declared.dynamic.Dynamic.{Dynamic}
use Rattle.abc_scan.specs.declared.field.Field.{Field}
use Rattle.abc_scan.specs.declared.length.WrittenLength.{WrittenLength}
use Rattle.abc_scan.specs.declared.note.Note.{Note}
use Rattle.abc_scan.specs.declared.spanned.Spanned.{Spanned}
use Rattle.abc_scan.specs.declared.token.TokenKind.{TokenKind}
use Rattle.abc_scan.specs.declared.token.TokenKind.TheVariants as kinds
use Rattle.abc_scan.specs.declared.tuplet.Tuplet.{Tuplet}
use Rattle.abc_bars_body.specs.declared.body.Body.{Body}
use Rattle.abc_bars_notes.specs.declared.broken.Preceding.TheVariants.{Nothing}
use Rattle.abc_bars_body.specs.declared.cell.CellResult.{CellResult}
use Rattle.abc_bars_items.specs.declared.item.Item.{Item}
use Rattle.abc_bars_items.specs.declared.item.Item.TheVariants as items
use Rattle.abc_bars_notes.specs.BarRest.{bar_rest_of}
use Rattle.abc_bars_body.specs.Body.{here, with_here, after_mention}
use Rattle.abc_bars_body.specs.BodyFields.{FieldResult, field_result}
use Rattle.abc_bars_notes.specs.Broken.{preceding_after, factors_of, is_bad_mark}
use Rattle.abc_bars_items.specs.Column.{column_of}
use Rattle.abc_bars_items.specs.Program.{program_of}
use Rattle.abc_bars_voice.specs.VoiceState.{without_accidentals}
use Rattle.abc_bars_notes.specs.TimeTokens.{TimeTokenResult, play_note, play_chord, play_rest, with_result}
use Rattle.abc_bars_notes.specs.TokenRole.{has_note, is_tie_role, is_tieable, token_role}
use Rattle.abc_bars_voice.specs.Tuplet.{begin_tuplet}

-- Whether a token is a tie.
abbrev pub is_tie_token : TokenKind → Bool
is_tie_token kind = is_tie_role (token_role kind)

-- Whether a tie comes first. ABC 2.1 section 4.11; that nothing may be between is not in ABC 2.1.
abbrev pub tie_ahead : List (Spanned TokenKind) → Bool
tie_ahead [] = false
tie_ahead (token ∷ rest) = is_tie_token token.kind

-- Whether a tie may be directly after a token.
abbrev pub may_be_tied : TokenKind → Bool
may_be_tied kind = is_tieable (token_role kind)

-- Before the first token of a cell.
abbrev pub empty_cell_result : Body → CellResult
empty_cell_result body =
    record { body = body; items = record { items = []; faults = [] }; preceding = Nothing; after_note = false }

-- After a token that gives an item.
abbrev pub with_item : CellResult → Item → CellResult
with_item given item = record given { items = record given.items { items = given.items.items ++ item ∷ [] } }

-- After a token that gives these items.
abbrev pub with_items : CellResult → List Item → CellResult
with_items given more = record given { items = record given.items { items = given.items.items ++ more } }

-- After a token that has these faults.
abbrev pub with_faults : CellResult → List (ℕ × FaultCode) → CellResult
with_faults given more = record given { items = record given.items { faults = given.items.faults ++ more } }

-- After a token that has a fault.
abbrev pub with_fault : CellResult → ℕ → FaultCode → CellResult
with_fault given place code =
    record given { items = record given.items { faults = given.items.faults ++ (column_of place, code) ∷ [] } }

-- After a token that has a fault, if it has one.
abbrev pub with_fault_if : CellResult → Bool → ℕ → FaultCode → CellResult
with_fault_if given true place code = with_fault given place code
with_fault_if given false place code = given

-- After a token that has this fault or none.
abbrev pub with_some_fault : CellResult → ℕ → Option FaultCode → CellResult
with_some_fault given place None = given
with_some_fault given place (Some code) = with_fault given place code

-- After a note, chord or rest of the current voice of this body.
abbrev pub with_result_in : CellResult → Body → TimeTokenResult → CellResult
with_result_in given body played =
    record given { body = with_here body played.state; items = with_result given.items played }

-- After a note.
abbrev pub with_note : CellResult → ℕ → Note → List (Spanned TokenKind) → CellResult
with_note given place note ahead =
    let body = after_mention given.body in
    with_result_in given body (play_note (here body) (factors_of given.preceding ahead) (tie_ahead ahead) place note)

-- After a rest.
abbrev pub with_rest : CellResult → ℕ → WrittenLength → List (Spanned TokenKind) → CellResult
with_rest given place length ahead =
    let body = after_mention given.body in
    with_result_in given body (play_rest (here body) (factors_of given.preceding ahead) place length)

-- A chord that has a note mentions its voice. Not in ABC 2.1.
abbrev pub after_chord_mention : Bool → Body → Body
after_chord_mention true body = after_mention body
after_chord_mention false body = body

-- After a chord.
abbrev pub with_chord : CellResult → ℕ → Chord → List (Spanned TokenKind) → CellResult
with_chord given place chord ahead =
    let body = after_chord_mention (has_note chord.parts) given.body in
    with_result_in given body (play_chord (here body) (factors_of given.preceding ahead) (tie_ahead ahead) place chord)

-- After a rest of bars.
abbrev pub with_bar_rest : CellResult → ℕ → Option ℕ → CellResult
with_bar_rest given place bars =
    let body = after_mention given.body in
    let rest = bar_rest_of (here body).meter bars in
    with_some_fault (with_item (record given { body = body }) rest.0) place rest.1

-- After a field.
abbrev pub with_field_result : CellResult → FieldResult → CellResult
with_field_result given field = with_faults (with_items (record given { body = field.body }) field.items) field.faults

abbrev pub with_field : CellResult → ℕ → Field → CellResult
with_field given place field = with_field_result given (field_result given.body field.letter field.value place)

-- After a bar line, which ends the accidentals of its voice. ABC 2.1 section 4.2.
abbrev pub with_bar : CellResult → BarLine → CellResult
with_bar given bar =
    with_item (record given { body = with_here given.body (without_accidentals (here given.body)) }) (items.Bar bar)

-- After the mark of an ending for these passes, or of one that is refused.
abbrev pub with_ending : CellResult → ℕ → Option ℕ → CellResult
with_ending given place None = with_fault given place BadEnding
with_ending given place (Some passes) = with_item given (items.Ending passes)

-- After a tuplet mark.
abbrev pub with_tuplet : CellResult → ℕ → Tuplet → CellResult
with_tuplet given place mark =
    let opened = begin_tuplet (here given.body).meter (here given.body).tuplet mark in
    with_some_fault (record given { body = with_here given.body (record (here given.body) { tuplet = opened.0 }) }) place opened.1

-- After a dynamic of the current voice. ABC 2.1 section 4.14.
abbrev pub with_dynamic : CellResult → Dynamic → CellResult
with_dynamic given dynamic = record given { body = with_here given.body (record (here given.body) { dynamic = Some dynamic }) }

-- After a directive of this program, or of one that MIDI does not have.
abbrev pub with_program : CellResult → ℕ → Option ℕ → CellResult
with_program given place number = with_fault_if (with_item given (items.Program false number)) (is_none number) place BadProgram

-- After a directive: the body cannot change the reach of accidentals. Not in ABC 2.1.
abbrev pub with_directive : CellResult → ℕ → Directive → CellResult
with_directive given place (directives.Program written) = with_program given place (program_of written)
with_directive given place (directives.Reach reach) = given

-- After a tie, which has a fault if no note or chord is directly before it.
abbrev pub with_tie : CellResult → ℕ → CellResult
with_tie given place = if given.after_note then given else with_fault given place LooseTie

-- The state after a token at a place of its line, with these tokens after it in its cell.
abbrev pub with_kind : CellResult → ℕ → TokenKind → List (Spanned TokenKind) → CellResult
with_kind given place (kinds.Note note) ahead = with_note given place note ahead
with_kind given place (kinds.Rest length) ahead = with_rest given place length ahead
with_kind given place (kinds.BarRest bars) ahead = with_bar_rest given place bars
with_kind given place (kinds.Chord chord) ahead = with_chord given place chord ahead
with_kind given place (kinds.InlineField field) ahead = with_field given place field
with_kind given place (kinds.Bar bar) ahead = with_bar given bar
with_kind given place (kinds.Ending passes) ahead = with_ending given place passes
with_kind given place (kinds.Tuplet mark) ahead = with_tuplet given place mark
with_kind given place (kinds.Broken mark) ahead = with_fault_if given (is_bad_mark given.preceding ahead) place BadBroken
with_kind given place kinds.Tie ahead = with_tie given place
with_kind given place (kinds.Dynamic dynamic) ahead = with_dynamic given dynamic
with_kind given place (kinds.Directive directive) ahead = with_directive given place directive
with_kind given place (kinds.Field field) ahead = with_field given place field
with_kind given place kinds.Unclosed ahead = with_fault given place Unclosed
with_kind given place kinds.BadByte ahead = with_fault given place BadByte
with_kind given place _ ahead = given

-- The same, with what the token is to those after it.
abbrev pub with_token : CellResult → Spanned TokenKind → List (Spanned TokenKind) → CellResult
with_token given token ahead = record (with_kind given token.from token.kind ahead) {
  preceding = preceding_after given.preceding token.kind;
  after_note = may_be_tied token.kind;
}

-- The state after tokens, and what they give, one after another.
abbrev pub cell_result_from : CellResult → List (Spanned TokenKind) → CellResult
cell_result_from given [] = given
cell_result_from given (token ∷ ahead) = cell_result_from (with_token given token ahead) ahead

-- The state after a cell, and what it gives.
abbrev pub cell_result : Body → List (Spanned TokenKind) → CellResult
cell_result body cell = cell_result_from (empty_cell_result body) cell
