-- What a token of a cell gives: the items and the faults that it adds.
use Rattle.std.proofs.Common.{◌≡◌, ℕ, Bool, true, false, cond, List, [], ◌∷◌, ◌++◌, Option, Some, None, refl, sym, ap, append-nil}
use Rattle.std.specs.Prelude.{is_none}
use Rattle.abc_fields.specs.declared.fault_code.FaultCode.{FaultCode}
use Rattle.abc_fields.specs.declared.fault_code.FaultCode.TheVariants.{BadBroken, BadByte, BadEnding, BadProgram, LooseTie, Unclosed}
use Rattle.abc_scan.specs.declared.directive.Directive.{Directive}
use Rattle.abc_scan.specs.declared.directive.Directive.TheVariants as directives
use Rattle.abc_scan.specs.declared.spanned.Spanned.{Spanned}
use Rattle.abc_scan.specs.declared.token.TokenKind.{TokenKind}
use Rattle.abc_scan.specs.declared.token.TokenKind.TheVariants as kinds
use Rattle.abc_bars_items.specs.Column.{column_of}
use Rattle.abc_bars_items.specs.Item.{Items}
use Rattle.abc_bars_items.specs.Program.{program_of}
use Rattle.abc_bars_items.specs.declared.item.Item.{Item}
use Rattle.abc_bars_items.specs.declared.item.Item.TheVariants as items
use Rattle.abc_bars_voice.specs.Tuplet.{begin_tuplet}
use Rattle.abc_bars_notes.specs.declared.broken.Preceding.{Preceding}
use Rattle.abc_bars_notes.specs.BarRest.{bar_rest_of}
use Rattle.abc_bars_notes.specs.Broken.{factors_of, is_bad_mark}
use Rattle.abc_bars_notes.specs.Sound.{fault_if}
use Rattle.abc_bars_notes.specs.TimeTokens.{play_chord, play_note, play_rest}
use Rattle.abc_bars_notes.specs.TokenRole.{has_note}
use Rattle.abc_bars_body.specs.declared.body.Body.{Body}
use Rattle.abc_bars_body.specs.declared.cell.CellResult.{CellResult}
use Rattle.abc_bars_body.specs.Body.{here, after_mention, with_here}
use Rattle.abc_bars_body.specs.BodyFields.{field_result}
use Rattle.abc_bars_body.specs.Cell.{after_chord_mention, tie_ahead, with_fault, with_fault_if, with_item, with_kind, with_some_fault}
use Rattle.abc_bars.specs.LookBack.CellFaults.{Faults, ending_faults}

-- The items of a token, by what holds before it in the body and in its cell.
abbrev pub token_items : Body → Preceding → ℕ → TokenKind → List (Spanned TokenKind) → List Item
token_items body preceding from (kinds.Note note) ahead = (play_note (here (after_mention body)) (factors_of preceding ahead) (tie_ahead ahead) from note).items
token_items body preceding from (kinds.Rest length) ahead = (play_rest (here (after_mention body)) (factors_of preceding ahead) from length).items
token_items body preceding from (kinds.BarRest bars) ahead = (bar_rest_of (here (after_mention body)).meter bars).0 ∷ []
token_items body preceding from (kinds.Chord chord) ahead =
    (play_chord (here (after_chord_mention (has_note chord.parts) body)) (factors_of preceding ahead) (tie_ahead ahead) from chord).items
token_items body preceding from (kinds.InlineField field) ahead = (field_result body field.letter field.value from).items
token_items body preceding from (kinds.Field field) ahead = (field_result body field.letter field.value from).items
token_items body preceding from (kinds.Bar bar) ahead = items.Bar bar ∷ []
token_items body preceding from (kinds.Ending (Some passes)) ahead = items.Ending passes ∷ []
token_items body preceding from (kinds.Directive (directives.Program written)) ahead = items.Program false (program_of written) ∷ []
token_items body preceding from _ ahead = []

-- A fault at a place, if there is one.
abbrev pub some_fault : ℕ → Option FaultCode → Faults
some_fault from None = []
some_fault from (Some code) = (column_of from, code) ∷ []

abbrev pub directive_faults : ℕ → Directive → Faults
directive_faults from (directives.Program written) = fault_if (is_none (program_of written)) (column_of from) BadProgram
directive_faults from (directives.Reach reach) = []

-- The faults of a token, by what holds before it in the body and in its cell.
abbrev pub token_faults : Body → Preceding → Bool → ℕ → TokenKind → List (Spanned TokenKind) → Faults
token_faults body preceding after from (kinds.Note note) ahead = (play_note (here (after_mention body)) (factors_of preceding ahead) (tie_ahead ahead) from note).faults
token_faults body preceding after from (kinds.Rest length) ahead = (play_rest (here (after_mention body)) (factors_of preceding ahead) from length).faults
token_faults body preceding after from (kinds.BarRest bars) ahead = some_fault from (bar_rest_of (here (after_mention body)).meter bars).1
token_faults body preceding after from (kinds.Chord chord) ahead =
    (play_chord (here (after_chord_mention (has_note chord.parts) body)) (factors_of preceding ahead) (tie_ahead ahead) from chord).faults
token_faults body preceding after from (kinds.InlineField field) ahead = (field_result body field.letter field.value from).faults
token_faults body preceding after from (kinds.Field field) ahead = (field_result body field.letter field.value from).faults
token_faults body preceding after from (kinds.Ending passes) ahead = ending_faults from passes
token_faults body preceding after from (kinds.Tuplet mark) ahead = some_fault from (begin_tuplet (here body).meter (here body).tuplet mark).1
token_faults body preceding after from (kinds.Broken mark) ahead = fault_if (is_bad_mark preceding ahead) (column_of from) BadBroken
token_faults body preceding after from kinds.Tie ahead = cond after [] ((column_of from, LooseTie) ∷ [])
token_faults body preceding after from (kinds.Directive directive) ahead = directive_faults from directive
token_faults body preceding after from kinds.Unclosed ahead = (column_of from, Unclosed) ∷ []
token_faults body preceding after from kinds.BadByte ahead = (column_of from, BadByte) ∷ []
token_faults body preceding after from _ ahead = []

-- These items and faults after those that were given.
abbrev joined : Items → List Item → Faults → Items
joined given more faults = record { items = given.items ++ more; faults = given.faults ++ faults }

no-more : (given : Items) → given ≡ joined given [] []
no-more given = λ i. record { items = sym (append-nil given.items) i; faults = sym (append-nil given.faults) i }

one-item : (given : Items) (item : Item) → record { items = given.items ++ item ∷ []; faults = given.faults } ≡ joined given (item ∷ []) []
one-item given item = λ i. record { items = given.items ++ item ∷ []; faults = sym (append-nil given.faults) i }

one-fault : (given : Items) (fault : ℕ × FaultCode) → record { items = given.items; faults = given.faults ++ fault ∷ [] } ≡ joined given [] (fault ∷ [])
one-fault given fault = λ i. record { items = sym (append-nil given.items) i; faults = given.faults ++ fault ∷ [] }

fault-adds : (given : CellResult) (from : ℕ) (o : Option FaultCode) → (with_some_fault given from o).items ≡ joined given.items [] (some_fault from o)
fault-adds given from None = no-more given.items
fault-adds given from (Some code) = one-fault given.items (column_of from, code)

item-adds : (given : CellResult) (item : Item) (from : ℕ) (o : Option FaultCode)
    → (with_some_fault (with_item given item) from o).items ≡ joined given.items (item ∷ []) (some_fault from o)
item-adds given item from None = one-item given.items item
item-adds given item from (Some code) = refl

mark-adds : (given : CellResult) (b : Bool) (from : ℕ) → (with_fault_if given b from BadBroken).items ≡ joined given.items [] (fault_if b (column_of from) BadBroken)
mark-adds given true from = one-fault given.items (column_of from, BadBroken)
mark-adds given false from = no-more given.items

program-adds : (given : CellResult) (item : Item) (b : Bool) (from : ℕ)
    → (with_fault_if (with_item given item) b from BadProgram).items ≡ joined given.items (item ∷ []) (fault_if b (column_of from) BadProgram)
program-adds given item true from = refl
program-adds given item false from = one-item given.items item

tie-adds : (given : CellResult) (from : ℕ) (b : Bool) → (cond b given (with_fault given from LooseTie)).items ≡ joined given.items [] (cond b [] ((column_of from, LooseTie) ∷ []))
tie-adds given from true = no-more given.items
tie-adds given from false = one-fault given.items (column_of from, LooseTie)

-- A token adds its items and its faults to those before it.
token-adds : (given : CellResult) (from : ℕ) (kind : TokenKind) (ahead : List (Spanned TokenKind))
    → (with_kind given from kind ahead).items
    ≡ joined given.items (token_items given.body given.preceding from kind ahead) (token_faults given.body given.preceding given.after_note from kind ahead)
token-adds given from (kinds.Note note) ahead = refl
token-adds given from (kinds.Rest length) ahead = refl
token-adds given from (kinds.BarRest bars) ahead =
    let body : Body = after_mention given.body in
    let rest = bar_rest_of (here body).meter bars in
    item-adds (record given { body = body }) rest.0 from rest.1
token-adds given from (kinds.Chord chord) ahead = refl
token-adds given from (kinds.InlineField field) ahead = refl
token-adds given from (kinds.Field field) ahead = refl
token-adds given from (kinds.Bar bar) ahead = one-item given.items (items.Bar bar)
token-adds given from (kinds.Ending None) ahead = one-fault given.items (column_of from, BadEnding)
token-adds given from (kinds.Ending (Some passes)) ahead = one-item given.items (items.Ending passes)
token-adds given from (kinds.Tuplet mark) ahead =
    let opened = begin_tuplet (here given.body).meter (here given.body).tuplet mark in
    fault-adds (record given { body = with_here given.body (record (here given.body) { tuplet = opened.0 }) }) from opened.1
token-adds given from (kinds.Broken mark) ahead = mark-adds given (is_bad_mark given.preceding ahead) from
token-adds given from kinds.Tie ahead = tie-adds given from given.after_note
token-adds given from (kinds.Directive (directives.Program written)) ahead =
    program-adds given (items.Program false (program_of written)) (is_none (program_of written)) from
token-adds given from (kinds.Directive (directives.Reach reach)) ahead = no-more given.items
token-adds given from kinds.Unclosed ahead = one-fault given.items (column_of from, Unclosed)
token-adds given from kinds.BadByte ahead = one-fault given.items (column_of from, BadByte)
token-adds given from _ ahead = no-more given.items

pub items_added : (given : CellResult) (from : ℕ) (kind : TokenKind) (ahead : List (Spanned TokenKind))
    → (with_kind given from kind ahead).items.items ≡ given.items.items ++ token_items given.body given.preceding from kind ahead
items_added given from kind ahead = ap (λ (all : Items). all.items) (token-adds given from kind ahead)

pub faults_added : (given : CellResult) (from : ℕ) (kind : TokenKind) (ahead : List (Spanned TokenKind))
    → (with_kind given from kind ahead).items.faults ≡ given.items.faults ++ token_faults given.body given.preceding given.after_note from kind ahead
faults_added given from kind ahead = ap (λ (all : Items). all.faults) (token-adds given from kind ahead)
