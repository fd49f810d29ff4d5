-- The items of a body say that a body gives them, those of a header that a header does.
use Rattle.std.proofs.Common.{◌≡◌, ◌∙◌, ℕ, true, List, [], ◌∷◌, ◌++◌, Option, Some, None, Result, Ok, Err, slice_range, refl, ap, append-nil}
use Rattle.std.specs.Prelude.{filter, option_to_list}
use Rattle.std.proofs.lemmas.List.Elements.{filter-append}
use Rattle.abc_fields.specs.declared.fault_code.FaultCode.{FaultCode}
use Rattle.abc_fields.specs.declared.key.Key.{Key}
use Rattle.abc_fields.specs.declared.shift.Shift.{Shift}
use Rattle.abc_fields.specs.declared.tempo.Tempo.{Tempo}
use Rattle.abc_fields.specs.declared.voice.Voice.{Voice}
use Rattle.abc_fields.specs.Key.{key_of}
use Rattle.abc_fields.specs.Parts.{parts_of}
use Rattle.abc_fields.specs.Voice.{voice_of}
use Rattle.abc_scan.specs.declared.directive.Directive.{Directive}
use Rattle.abc_scan.specs.declared.directive.Directive.TheVariants as directives
use Rattle.abc_scan.specs.declared.spanned.Spanned.{Spanned}
use Rattle.abc_scan.specs.declared.token.TokenKind.{TokenKind}
use Rattle.abc_time.specs.declared.ratio.Ratio.{Ratio}
use Rattle.abc_bars_header.specs.Defaults.{unit_in}
use Rattle.abc_bars_header.specs.FieldKind.{kind_of}
use Rattle.abc_bars_header.specs.Header.{append_program, declare, declare_result, directive_item, header_key_by, header_voice_by, items_with, own_line_result, line_program, order_by, own_result}
use Rattle.abc_bars_header.specs.Header.{reference_by}
use Rattle.abc_bars_header.specs.HeaderLine.{HeaderLine, FieldLine, DirectiveLine}
use Rattle.abc_bars_header.specs.Opening.{opening_meter, opening_tempo, opening_tempo_by}
use Rattle.abc_bars_header.specs.Reference.{reference_of}
use Rattle.abc_bars_header.specs.declared.defaults.Defaults.{Defaults}
use Rattle.abc_bars_header.specs.declared.field_kind.FieldKind.{FieldKind}
use Rattle.abc_bars_header.specs.declared.field_kind.FieldKind.TheVariants as fields
use Rattle.abc_bars_header.specs.declared.header.Header.{Header}
use Rattle.abc_bars_items.specs.declared.item.Item.{Item}
use Rattle.abc_bars_items.specs.declared.item.Item.TheVariants as items
use Rattle.abc_bars_body.specs.declared.body.Body.{Body}
use Rattle.abc_bars_body.specs.declared.cell.CellResult.{CellResult}
use Rattle.abc_bars_body.specs.Cell.{empty_cell_result, tie_ahead, with_token}
use Rattle.abc_bars.specs.LookBack.Cells.{look_back}
use Rattle.abc_bars.specs.LookBack.Element.{Element}
use Rattle.abc_bars.specs.LookBack.Flags.{BodiesSaySo, HeadersSaySo, is_of_body}
use Rattle.abc_bars.specs.LookBack.Header.{header_at}
use Rattle.abc_bars.specs.LookBack.BodyState.{body_at}
use Rattle.abc_bars.specs.LookBack.Place.{opening_at, result_in_body}
use Rattle.abc_bars.proofs.LookBack.BodyItems.{AreOfBody, none_of_header, of_kind}

from-here : (opening : Body) (before : List Element) (given : CellResult) (cell : List (Spanned TokenKind)) → AreOfBody given.items.items
    → AreOfBody (look_back opening before given cell).items.items
from-here opening before given [] h = h
from-here opening before given (token ∷ ahead) h =
    let start : CellResult = record given { body = body_at opening before } in
    from-here opening (record { kind = token.kind; tied = tie_ahead ahead } ∷ before) (with_token start token ahead) ahead (of_kind start token.from token.kind ahead h)

pub bodies_say_so : BodiesSaySo
bodies_say_so values fields key before cell =
    none_of_header (result_in_body values fields key before cell).items (from-here (opening_at values fields key) before (empty_cell_result (opening_at values fields key)) cell tt)

-- the items that say that a body gives them
abbrev Later : List Item → List Item
Later given = filter is_of_body given

no-later : (tune others : List Item) → Later tune ≡ [] → Later others ≡ [] → Later (tune ++ others) ≡ []
no-later tune others h k = filter-append is_of_body tune others ∙ ap (λ l. Later tune ++ l) k ∙ append-nil _ ∙ h

opening-tempo : (unit : Ratio) (tempo : Option Tempo) (defaults : Defaults) → Later (opening_tempo_by unit tempo ∷ opening_meter defaults ∷ []) ≡ []
opening-tempo unit None defaults = refl
opening-tempo unit (Some tempo) defaults = refl

with-item : (item : Option Item) (defaults : Defaults) → Later (option_to_list item) ≡ [] → Later (items_with item defaults) ≡ []
with-item None defaults h = opening-tempo (unit_in defaults) defaults.tempo defaults
with-item (Some item) defaults h = no-later (item ∷ []) (opening_tempo defaults ∷ opening_meter defaults ∷ []) h (opening-tempo (unit_in defaults) defaults.tempo defaults)

with-program : (given : List Item) (program : Option ℕ) → Later given ≡ [] → Later (append_program given program) ≡ []
with-program given None h = h
with-program given (Some program) h = no-later given (items.Program true (Some program) ∷ []) h refl

of-reference : (header : Header) (number : Result ℕ FaultCode) → Later (option_to_list (reference_by header number).item) ≡ []
of-reference header (Ok number) = refl
of-reference header (Err fault) = refl

of-order : (header : Header) (value : List ℕ) (order : Result (Unit {0}) FaultCode) → Later (option_to_list (order_by header value order).item) ≡ []
of-order header value (Ok reading) = refl
of-order header value (Err fault) = refl

of-declare : (header : Header) (name : List ℕ) (voices : List (List ℕ × Shift)) (fault : Option FaultCode)
    → Later (option_to_list (declare_result header name (voices, fault)).item) ≡ []
of-declare header name voices None = refl
of-declare header name voices (Some fault) = refl

of-header-voice : (header : Header) (value : List ℕ) (voice : Result Voice FaultCode) → Later (option_to_list (header_voice_by header value voice).item) ≡ []
of-header-voice header value (Ok voice) =
    let name : List ℕ = slice_range value voice.from voice.to in
    let made = declare header.voices name voice.shift in
    of-declare header name made.0 made.1
of-header-voice header value (Err fault) = refl

of-header-key : (header : Header) (key : Result Key FaultCode) → Later (option_to_list (header_key_by header key).item) ≡ []
of-header-key header (Ok key) = refl
of-header-key header (Err fault) = refl

of-own : (header : Header) (kind : FieldKind) (value : List ℕ) → Later (option_to_list (own_result header kind value).item) ≡ []
of-own header fields.Reference value = of-reference header (reference_of value)
of-own header fields.Parts value = of-order header value (parts_of value)
of-own header fields.Voice value = of-header-voice header value (voice_of value)
of-own header fields.Key value = of-header-key header (key_of value)
of-own header _ value = refl

of-header-directive : (directive : Directive) → Later (option_to_list (directive_item directive)) ≡ []
of-header-directive (directives.Program written) = refl
of-header-directive (directives.Reach reach) = refl

of-line : (header : Header) (line : HeaderLine) → Later (option_to_list (own_line_result header line).item) ≡ []
of-line header (FieldLine field) = of-own header (kind_of field.letter) field.value
of-line header (DirectiveLine directive) = of-header-directive directive

pub headers_say_so : HeadersSaySo
headers_say_so values before cell line =
    let header : Header = header_at values before in
    let own = own_line_result header line in
    with-program (items_with own.item own.header.defaults) (line_program line header.defaults)
    (with-item own.item own.header.defaults (of-line header line))
