-- The titles that the cells of a tune say are those of its header.
use Rattle.std.proofs.Common.{◌≡◌, ℕ, true, List, [], ◌∷◌, ◌++◌, Option, Some, None, refl, ap, ◌∙◌, append-nil}
use Rattle.std.specs.Prelude.{All, IfSome, Result, Ok, Err, option_to_list, slice_range}
use Rattle.std.specs.List.{cons_option, flat_map}
use Rattle.std.proofs.lemmas.List.Elements.{All-nil, All-cons, All-head, All-tail, filter_map-append}
use Rattle.abc_fields.specs.declared.fault_code.FaultCode.{FaultCode}
use Rattle.abc_fields.specs.declared.key.Key.{Key}
use Rattle.abc_fields.specs.declared.shift.Shift.{Shift}
use Rattle.abc_fields.specs.declared.tempo.Tempo.{Tempo}
use Rattle.abc_fields.specs.declared.voice.Voice.{Voice}
use Rattle.abc_fields.specs.Key.{empty_key, key_of}
use Rattle.abc_fields.specs.Parts.{parts_of}
use Rattle.abc_fields.specs.Voice.{voice_of}
use Rattle.abc_fold.specs.Steps.{items_from}
use Rattle.abc_bars_items.specs.Item.{Items}
use Rattle.abc_bars_items.specs.declared.item.Item.{Item}
use Rattle.abc_bars_items.specs.declared.item.Item.TheVariants as items
use Rattle.abc_scan.specs.declared.directive.Directive.{Directive}
use Rattle.abc_scan.specs.declared.directive.Directive.TheVariants as directives
use Rattle.abc_scan.specs.declared.field.Field.{Field}
use Rattle.abc_scan.specs.declared.spanned.Spanned.{Spanned}
use Rattle.abc_scan.specs.declared.token.TokenKind.{TokenKind}
use Rattle.abc_time.specs.declared.ratio.Ratio.{Ratio}
use Rattle.abc_bars_body.specs.BodyOpening.{body_from}
use Rattle.abc_bars_body.specs.Cell.{cell_result_from, empty_cell_result, with_token}
use Rattle.abc_bars_header.specs.Defaults.{unit_in}
use Rattle.abc_bars_header.specs.FieldKind.{kind_of}
use Rattle.abc_bars_header.specs.Header.{append_program, declare, declare_result, directive_item, header_key_by, header_voice_by, items_with, own_line_result, line_program, opening_header, order_by}
use Rattle.abc_bars_header.specs.Header.{own_result, reference_by}
use Rattle.abc_bars_header.specs.HeaderLine.{HeaderLine, FieldLine, DirectiveLine}
use Rattle.abc_bars_header.specs.Opening.{opening_meter, opening_tempo, opening_tempo_by}
use Rattle.abc_bars_header.specs.Reference.{reference_of}
use Rattle.abc_bars_body.specs.SameEntry.{bar_steps}
use Rattle.abc_bars_body.specs.Step.{following_kind, following_line, body_step, directive_in, field_in, file_header_step, header_step, line_in, line_of, entry_step}
use Rattle.abc_bars.proofs.LookBack.BodyItems.{AreOfBody, no_title, of_kind}
use Rattle.abc_bars.specs.Titles.{title_said, titles_by, titles_from, titles_of_header, titles_said, SaysTitlesOfHeader}
use Rattle.abc_bars_body.specs.declared.body.Body.{Body}
use Rattle.abc_bars_body.specs.declared.cell.CellResult.{CellResult}
use Rattle.abc_bars_header.specs.declared.defaults.Defaults.{Defaults}
use Rattle.abc_bars_body.specs.declared.entry.Entry.{Entry}
use Rattle.abc_bars_body.specs.declared.entry.Entry.TheVariants as entries
use Rattle.abc_bars_header.specs.declared.field_kind.FieldKind.{FieldKind}
use Rattle.abc_bars_header.specs.declared.field_kind.FieldKind.TheVariants as fields
use Rattle.abc_bars_header.specs.declared.header.Header.{Header}

abbrev pub Cell : Type 0
Cell = List (Spanned TokenKind)

-- items that say no title, after others
quiet : (tune more : List Item) → titles_said more ≡ [] → titles_said (tune ++ more) ≡ titles_said tune
quiet tune more none = filter_map-append title_said tune more ∙ ap (λ titles. titles_said tune ++ titles) none ∙ append-nil (titles_said tune)

-- the body says none
tokens_of_body : (given : CellResult) (tokens : Cell) → AreOfBody given.items.items → AreOfBody (cell_result_from given tokens).items.items
tokens_of_body given [] h = h
tokens_of_body given (token ∷ ahead) h = tokens_of_body (with_token given token ahead) ahead (of_kind given token.from token.kind ahead h)

body_quiet : (body : Body) (cell : Cell) → titles_said (body_step body cell).1.items ≡ []
body_quiet body cell = no_title (body_step body cell).1.items (tokens_of_body (empty_cell_result body) cell tt)

-- the header
tempo_silent : (unit : Ratio) (tempo : Option Tempo) → title_said (opening_tempo_by unit tempo) ≡ None
tempo_silent unit None = refl
tempo_silent unit (Some tempo) = refl

opening_quiet : (defaults : Defaults) → titles_said (opening_tempo defaults ∷ opening_meter defaults ∷ []) ≡ []
opening_quiet defaults = ap (λ title. cons_option title []) (tempo_silent (unit_in defaults) defaults.tempo)

abbrev titles_if : Option Item → List (List ℕ)
titles_if item = titles_said (option_to_list item)

items_say : (item : Option Item) (defaults : Defaults) → titles_said (items_with item defaults) ≡ titles_if item
items_say None defaults = opening_quiet defaults
items_say (Some item) defaults = ap (cons_option (title_said item)) (opening_quiet defaults)

reference_silent : (header : Header) (number : Result ℕ FaultCode) → titles_if (reference_by header number).item ≡ []
reference_silent header (Ok number) = refl
reference_silent header (Err fault) = refl

order_silent : (header : Header) (value : List ℕ) (order : Result (Unit {0}) FaultCode) → titles_if (order_by header value order).item ≡ []
order_silent header value (Ok reading) = refl
order_silent header value (Err fault) = refl

declared_silent : (header : Header) (name : List ℕ) (voices : List (List ℕ × Shift)) (fault : Option FaultCode)
    → titles_if (declare_result header name (voices, fault)).item ≡ []
declared_silent header name voices None = refl
declared_silent header name voices (Some fault) = refl

voice_silent : (header : Header) (value : List ℕ) (voice : Result Voice FaultCode) → titles_if (header_voice_by header value voice).item ≡ []
voice_silent header value (Ok voice) =
    let name = slice_range value voice.from voice.to in
    let made = declare header.voices name voice.shift in
    declared_silent header name made.0 made.1
voice_silent header value (Err fault) = refl

key_silent : (header : Header) (key : Result Key FaultCode) → titles_if (header_key_by header key).item ≡ []
key_silent header (Ok key) = refl
key_silent header (Err fault) = refl

-- what a field of the header says itself
own_say : (header : Header) (kind : FieldKind) (value : List ℕ) → titles_if (own_result header kind value).item ≡ titles_from kind value []
own_say header fields.Reference value = reference_silent header (reference_of value)
own_say header fields.Parts value = order_silent header value (parts_of value)
own_say header fields.Voice value = voice_silent header value (voice_of value)
own_say header fields.Key value = key_silent header (key_of value)
own_say header _ value = refl

-- nor does a directive or a program
directive_silent : (directive : Directive) → titles_if (directive_item directive) ≡ []
directive_silent (directives.Program written) = refl
directive_silent (directives.Reach reach) = refl

program_quiet : (given : List Item) (program : Option ℕ) → titles_said (append_program given program) ≡ titles_said given
program_quiet given None = refl
program_quiet given (Some program) = quiet given (items.Program true (Some program) ∷ []) refl

line_say : (header : Header) (line : HeaderLine) → titles_if (own_line_result header line).item ≡ titles_by (Some line) []
line_say header (FieldLine field) = own_say header (kind_of field.letter) field.value
line_say header (DirectiveLine directive) = directive_silent directive

-- what holds of the value of each field line holds of each title
from_passes : (P : List ℕ → Type 0) (kind : FieldKind) (value : List ℕ) (following : List (List ℕ)) → P value → All P following → All P (titles_from kind value following)
from_passes P fields.Title value following is all = All-cons P value following is all
from_passes P fields.Key value following is all = All-nil P
from_passes P _ value following is all = all

abbrev pub HasValue : (List ℕ → Type 0) → Cell → Type 0
HasValue P cell = IfSome (field_in cell) (λ field. P field.value)

by_passes : (P : List ℕ → Type 0) (field : Option Field) (directive : Option Directive) (following : List (List ℕ))
    → IfSome field (λ f. P f.value) → All P following → All P (titles_by (line_of field directive) following)
by_passes P None None following is all = All-nil P
by_passes P None (Some directive) following is all = all
by_passes P (Some field) directive following is all = from_passes P (kind_of field.letter) field.value following is all

pub titles_pass : (P : List ℕ → Type 0) (cells : List Cell) → All (HasValue P) cells → All P (titles_of_header cells)
titles_pass P [] all = All-nil P
titles_pass P (cell ∷ cells) all =
    by_passes P (field_in cell) (directive_in cell) (titles_of_header cells) (All-head (HasValue P) cell cells all) (titles_pass P cells (All-tail (HasValue P) cell cells all))

-- The titles from a place of a tune on.
abbrev said_from : Entry → List Cell → List (List ℕ)
said_from (entries.FileHeader defaults) cells = []
said_from (entries.Opening defaults) cells = titles_of_header cells
said_from (entries.Header header) cells = titles_of_header cells
said_from (entries.Body body) cells = []

after_say : (header : Header) (kind : FieldKind) (value : List ℕ) (cells : List Cell)
    → titles_from kind value [] ++ said_from (following_kind header kind value) cells ≡ titles_from kind value (titles_of_header cells)
after_say header fields.Key value cells = refl
after_say header _ value cells = refl

after_line_say : (header : Header) (line : HeaderLine) (cells : List Cell)
    → titles_by (Some line) [] ++ said_from (following_line header line) cells ≡ titles_by (Some line) (titles_of_header cells)
after_line_say header (FieldLine field) cells = after_say header (kind_of field.letter) field.value cells
after_line_say header (DirectiveLine directive) cells = refl

abbrev step_says : Entry × Items → List Cell → List (List ℕ)
step_says step cells = titles_said step.1.items ++ said_from step.0 cells

body_says : (body : Body) (cell : Cell) (cells : List Cell) → step_says (body_step body cell) cells ≡ []
body_says body cell cells = ap (λ titles. titles ++ []) (body_quiet body cell)

header_says : (header : Header) (cell : Cell) (line : Option HeaderLine) (cells : List Cell)
    → step_says (header_step header cell line) cells ≡ titles_by line (titles_of_header cells)
header_says header cell None cells = body_says (body_from header empty_key) cell cells
header_says header cell (Some line) cells =
    let own = own_line_result header line in
    ap (λ titles. titles ++ said_from (following_line own.header line) cells)
    (program_quiet (items_with own.item own.header.defaults) (line_program line header.defaults) ∙ items_say own.item own.header.defaults ∙ line_say header line)
    ∙ after_line_say own.header line cells

file_says : (defaults : Defaults) (line : Option HeaderLine) (cells : List Cell) → step_says (file_header_step defaults line) cells ≡ []
file_says defaults None cells = refl
file_says defaults (Some line) cells = refl

says : (entry : Entry) (cell : Cell) (cells : List Cell) → step_says (entry_step entry cell) cells ≡ said_from entry (cell ∷ cells)
unfolding entry_step
says (entries.FileHeader defaults) cell cells = file_says defaults (line_in cell) cells
says (entries.Opening defaults) cell cells = header_says (opening_header defaults) cell (line_in cell) cells
says (entries.Header header) cell cells = header_says header cell (line_in cell) cells
says (entries.Body body) cell cells = body_says body cell cells

nothing_said : (entry : Entry) → [] ≡ said_from entry []
nothing_said (entries.FileHeader defaults) = refl
nothing_said (entries.Opening defaults) = refl
nothing_said (entries.Header header) = refl
nothing_said (entries.Body body) = refl

cells_say : (entry : Entry) (cells : List Cell) → titles_said (flat_map (λ given. given.items) (items_from bar_steps entry cells)) ≡ said_from entry cells
cells_say entry [] = nothing_said entry
cells_say entry (cell ∷ cells) =
    let step = entry_step entry cell in
    filter_map-append title_said step.1.items (flat_map (λ given. given.items) (items_from bar_steps step.0 cells))
    ∙ ap (λ titles. titles_said step.1.items ++ titles) (cells_say step.0 cells)
    ∙ says entry cell cells

pub says_titles_of_header : SaysTitlesOfHeader
says_titles_of_header opening cells = cells_say (entries.Opening opening) cells
