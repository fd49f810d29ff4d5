-- What each cell of a tune gives, and the state after it.
use Rattle.std.proofs.Common.{◌≡◌, List, [], ◌∷◌, Option, Some, None, refl, sym, ap, ◌∙◌}
use Rattle.abc_fields.specs.declared.key.Key.{Key}
use Rattle.abc_fields.specs.Key.{empty_key, key_of, key_or_empty}
use Rattle.abc_scan.specs.declared.field.Field.{Field}
use Rattle.abc_scan.specs.declared.spanned.Spanned.{Spanned}
use Rattle.abc_scan.specs.declared.token.TokenKind.{TokenKind}
use Rattle.abc_bars_body.specs.declared.body.Body.{Body}
use Rattle.abc_bars_header.specs.declared.defaults.Defaults.{Defaults}
use Rattle.abc_bars_body.specs.declared.entry.Entry.TheVariants as entries
use Rattle.abc_bars_header.specs.declared.field_kind.FieldKind.{FieldKind}
use Rattle.abc_bars_header.specs.declared.field_kind.FieldKind.TheVariants as fields
use Rattle.abc_bars_header.specs.declared.header.Header.{Header}
use Rattle.abc_bars_body.specs.BodyOpening.{body_from}
use Rattle.abc_bars_header.specs.Defaults.{no_defaults}
use Rattle.abc_bars_header.specs.FieldKind.{kind_of}
use Rattle.abc_bars_header.specs.Header.{header_result}
use Rattle.abc_bars_header.specs.HeaderLine.{HeaderLine, FieldLine, DirectiveLine}
use Rattle.abc_bars_body.specs.Step.{following_kind, following_line, body_step, file_header_step, header_step, line_in, entry_step}
use Rattle.abc_bars.specs.LookBack.BodyState.{body_at}
use Rattle.abc_bars.specs.LookBack.Cells.{after_tokens}
use Rattle.abc_bars.specs.LookBack.Defaults.{defaults_at}
use Rattle.abc_bars.specs.LookBack.Element.{Element}
use Rattle.abc_bars.specs.LookBack.Header.{header_at}
use Rattle.abc_bars.specs.LookBack.Place.{Place, InFileHeader, InHeader, InBody, following_field, after_file_header, after_header, after_header_line, result_at, result_in_body, result_in_file_header}
use Rattle.abc_bars.specs.LookBack.Place.{result_in_header, opening_at, place_following, view}
use Rattle.abc_bars.proofs.HeaderLaws.{header_at_following}
use Rattle.abc_bars.proofs.HeaderViews.{defaults_after}
use Rattle.abc_bars.proofs.LookBack.Cells.{after_cell, given_by_cell}
use Rattle.abc_bars.proofs.LookBack.BodyState.{body_at_nil}

-- A cell of a file header.
in-file-header : (before : List HeaderLine) (line : Option HeaderLine)
    → file_header_step (defaults_at no_defaults before) line ≡ (view (after_file_header before line), result_in_file_header before line)
in-file-header before None = refl
in-file-header before (Some line) = λ i. (entries.FileHeader (sym (defaults_after no_defaults before line) i), result_in_file_header before (Some line))

-- A cell of a body.
in-body : (opening : Defaults) (before : List HeaderLine) (key : Key) (elements : List Element) (cell : List (Spanned TokenKind))
    → body_step (body_at (opening_at opening before key) elements) cell
    ≡ (entries.Body (body_at (opening_at opening before key) (after_tokens cell elements)), result_in_body opening before key elements cell)
in-body opening before key elements cell = λ i.
    (entries.Body (after_cell opening before key elements cell i), given_by_cell opening before key elements cell i)

-- After a field of a header.
following-kind : (opening : Defaults) (before : List HeaderLine) (field : Field) (kind : FieldKind)
    → following_kind (header_result (header_at opening before) (FieldLine field)).header kind field.value ≡ view (following_field opening before field kind)
following-kind opening before field fields.Key =
    let key : Key = key_or_empty (key_of field.value) in
    ap (λ (header : Header). entries.Body (body_from header key)) (sym (header_at_following opening before (FieldLine field)))
    ∙ ap entries.Body (sym (body_at_nil opening (FieldLine field ∷ before) key))
following-kind opening before field _ = ap entries.Header (sym (header_at_following opening before (FieldLine field)))

-- After a line of a header.
following-line : (opening : Defaults) (before : List HeaderLine) (line : HeaderLine)
    → following_line (header_result (header_at opening before) line).header line ≡ view (after_header_line opening before line)
following-line opening before (FieldLine field) = following-kind opening before field (kind_of field.letter)
following-line opening before (DirectiveLine directive) = ap entries.Header (sym (header_at_following opening before (DirectiveLine directive)))

-- A cell of a header.
in-header : (opening : Defaults) (before : List HeaderLine) (cell : List (Spanned TokenKind)) (line : Option HeaderLine)
    → header_step (header_at opening before) cell line ≡ (view (after_header opening before cell line), result_in_header opening before cell line)
in-header opening before cell (Some line) = λ i. (following-line opening before line i, result_in_header opening before cell (Some line))
in-header opening before cell None =
    ap (λ (body : Body). body_step body cell) (sym (body_at_nil opening before empty_key))
    ∙ in-body opening before empty_key [] cell

-- A cell gives at a place what looking back says, and the view after it is that of the place after it.
pub stepped_back : (place : Place) (cell : List (Spanned TokenKind)) → entry_step (view place) cell ≡ (view (place_following place cell), result_at place cell)
unfolding entry_step
stepped_back (InFileHeader before) cell = in-file-header before (line_in cell)
stepped_back (InHeader opening []) cell = in-header opening [] cell (line_in cell)
stepped_back (InHeader opening (line ∷ before)) cell = in-header opening (line ∷ before) cell (line_in cell)
stepped_back (InBody opening before key elements) cell = in-body opening before key elements cell
