-- What the cells of a tune give: in its header nothing that has a place.
use Rattle.std.proofs.Common.{◌≡◌, ℕ, List, [], ◌∷◌, ◌++◌, Option, Some, None, refl, append-nil, subst}
use Rattle.std.specs.Bool.{⊤}
use Rattle.std.specs.List.{AllZip}
use Rattle.std.specs.Prelude.{Result, Ok, Err, false, slice_range}
use Rattle.abc_bars_body.specs.BodyOpening.{body_from}
use Rattle.abc_bars_body.specs.Step.{entry_step, file_header_step, header_step, line_in}
use Rattle.abc_bars_body.specs.declared.body.Body.{Body}
use Rattle.abc_bars_body.specs.declared.entry.Entry.{Entry}
use Rattle.abc_bars_body.specs.declared.entry.Entry.TheVariants as entries
use Rattle.abc_bars_header.specs.FieldKind.{kind_of}
use Rattle.abc_bars_header.specs.Header.{append_program, declare, declare_result, header_key_by, header_result, header_voice_by, items_with, line_program}
use Rattle.abc_bars_header.specs.Header.{opening_header, order_by, own_line_result, own_result, reference_by}
use Rattle.abc_bars_header.specs.HeaderLine.{HeaderLine, FieldLine, DirectiveLine}
use Rattle.abc_bars_header.specs.Opening.{opening_tempo_by}
use Rattle.abc_bars_header.specs.Defaults.{unit_in}
use Rattle.abc_bars_header.specs.Reference.{reference_of}
use Rattle.abc_bars_header.specs.declared.defaults.Defaults.{Defaults}
use Rattle.abc_bars_header.specs.declared.field_kind.FieldKind.{FieldKind}
use Rattle.abc_bars_header.specs.declared.field_kind.FieldKind.TheVariants as fields
use Rattle.abc_bars_header.specs.declared.header.Header.{Header}
use Rattle.abc_bars_items.specs.declared.item.Item.{Item}
use Rattle.abc_fields.specs.Key.{empty_key, key_of}
use Rattle.abc_fields.specs.Parts.{parts_of}
use Rattle.abc_fields.specs.Voice.{voice_of}
use Rattle.abc_fields.specs.declared.fault_code.FaultCode.{FaultCode}
use Rattle.abc_fields.specs.declared.key.Key.{Key}
use Rattle.abc_fields.specs.declared.shift.Shift.{Shift}
use Rattle.abc_fields.specs.declared.tempo.Tempo.{Tempo}
use Rattle.abc_fields.specs.declared.voice.Voice.{Voice}
use Rattle.abc_scan.specs.declared.directive.Directive.TheVariants as directives
use Rattle.abc_time.specs.declared.ratio.Ratio.{Ratio}
use Rattle.abc_play_places.specs.Givers.{has_place, matched}
use Rattle.abc_play_places.proofs.Adding.{NonePlaced}
use Rattle.abc_play_places.proofs.Matched.{MayBeGiven, Tokens, given-cell, given_none}
use Rattle.abc_tune.specs.Abc.{steps_of_abc}

abbrev MayBePlain : Option Item → Type 0
MayBePlain None = ⊤
MayBePlain (Some item) = has_place item ≡ false

-- the item of a line of a header
reference_plain : (header : Header) (number : Result ℕ FaultCode) → MayBePlain (reference_by header number).item
reference_plain header (Ok number) = refl
reference_plain header (Err fault) = refl

order_plain : (header : Header) (value : List ℕ) (order : Result (Unit {0}) FaultCode) → MayBePlain (order_by header value order).item
order_plain header value (Ok accepted) = refl
order_plain header value (Err fault) = tt

declared_plain : (header : Header) (name : List ℕ) (after : List (List ℕ × Shift) × Option FaultCode) → MayBePlain (declare_result header name after).item
declared_plain header name (voices, None) = refl
declared_plain header name (voices, Some fault) = tt

voice_plain : (header : Header) (value : List ℕ) (voice : Result Voice FaultCode) → MayBePlain (header_voice_by header value voice).item
voice_plain header value (Ok voice) =
    let name = slice_range value voice.from voice.to in
    declared_plain header name (declare header.voices name voice.shift)
voice_plain header value (Err fault) = tt

key_plain : (header : Header) (key : Result Key FaultCode) → MayBePlain (header_key_by header key).item
key_plain header (Ok key) = refl
key_plain header (Err fault) = refl

field_plain : (header : Header) (kind : FieldKind) (value : List ℕ) → MayBePlain (own_result header kind value).item
field_plain header fields.Reference value = reference_plain header (reference_of value)
field_plain header fields.Title value = refl
field_plain header fields.Parts value = order_plain header value (parts_of value)
field_plain header fields.Voice value = voice_plain header value (voice_of value)
field_plain header fields.Key value = key_plain header (key_of value)
field_plain header _ value = tt

line_plain : (header : Header) (line : HeaderLine) → MayBePlain (own_line_result header line).item
line_plain header (FieldLine field) = field_plain header (kind_of field.letter) field.value
line_plain header (DirectiveLine (directives.Program written)) = refl
line_plain header (DirectiveLine (directives.Reach reach)) = tt

-- the tempo and meter after it, and a program
tempo_plain : (unit : Ratio) (tempo : Option Tempo) → has_place (opening_tempo_by unit tempo) ≡ false
tempo_plain unit None = refl
tempo_plain unit (Some tempo) = refl

items_plain : (item : Option Item) (defaults : Defaults) → MayBePlain item → NonePlaced (items_with item defaults)
items_plain None defaults plain = (tempo_plain (unit_in defaults) defaults.tempo, (refl, tt))
items_plain (Some item) defaults plain = (plain, (tempo_plain (unit_in defaults) defaults.tempo, (refl, tt)))

one_more : (given more : List Item) → NonePlaced given → NonePlaced more → NonePlaced (given ++ more)
one_more [] more none other = other
one_more (item ∷ given) more none other = (none.0, one_more given more none.1 other)

program_plain : (given : List Item) (program : Option ℕ) → NonePlaced given → NonePlaced (append_program given program)
program_plain given None none = none
program_plain given (Some program) none = one_more given _ none (refl, tt)

header_plain : (header : Header) (line : HeaderLine) → NonePlaced (header_result header line).items
header_plain header line =
    let own = own_line_result header line in
    program_plain (items_with own.item own.header.defaults) (line_program line header.defaults) (items_plain own.item own.header.defaults (line_plain header line))

-- the state of the body that a cell of music is in
abbrev pub body_in : Entry → Body
body_in (entries.FileHeader defaults) = body_from (opening_header defaults) empty_key
body_in (entries.Opening defaults) = body_from (opening_header defaults) empty_key
body_in (entries.Header header) = body_from header empty_key
body_in (entries.Body body) = body

-- items without a place
none_given : (body : Body) (cell : Tokens) (given : List Item) → NonePlaced given → AllZip (MayBeGiven body cell) given (matched cell 0 given)
none_given body cell given none =
    subst (λ l. AllZip (MayBeGiven body cell) l (matched cell 0 l)) (append-nil given) (given_none body cell 0 given [] none tt)

file_header_given : (body : Body) (defaults : Defaults) (cell : Tokens) (line : Option HeaderLine)
    → AllZip (MayBeGiven body cell) (file_header_step defaults line).1.items (matched cell 0 (file_header_step defaults line).1.items)
file_header_given body defaults cell None = tt
file_header_given body defaults cell (Some line) = tt

header_given : (header : Header) (cell : Tokens) (line : Option HeaderLine)
    → AllZip (MayBeGiven (body_from header empty_key) cell) (header_step header cell line).1.items (matched cell 0 (header_step header cell line).1.items)
header_given header cell None = given-cell (body_from header empty_key) cell
header_given header cell (Some line) = none_given (body_from header empty_key) cell (header_result header line).items (header_plain header line)

step_given : (state : Entry) (cell : Tokens) → AllZip (MayBeGiven (body_in state) cell) (entry_step state cell).1.items (matched cell 0 (entry_step state cell).1.items)
unfolding entry_step
step_given (entries.FileHeader defaults) cell = file_header_given (body_in (entries.FileHeader defaults)) defaults cell (line_in cell)
step_given (entries.Opening defaults) cell = header_given (opening_header defaults) cell (line_in cell)
step_given (entries.Header header) cell = header_given header cell (line_in cell)
step_given (entries.Body body) cell = given-cell body cell

-- each item of a cell that has a place is given by a token of its kind
pub cell_given : (state : Entry) (cell : Tokens)
    → AllZip (MayBeGiven (body_in state) cell) (steps_of_abc.gives state cell).items (matched cell 0 (steps_of_abc.gives state cell).items)
cell_given state cell = step_given state cell
