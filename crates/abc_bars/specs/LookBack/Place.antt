-- The state at a place of a file header or of a tune, by looking back over what is before it, and what a
-- cell gives there.
use Rattle.std.specs.Prelude.{◌≡◌, ℕ, List, [], ◌∷◌, Option, Some, None}
use Rattle.abc_fields.specs.declared.key.Key.{Key}
use Rattle.abc_fields.specs.Key.{empty_key, key_of, key_or_empty}
use Rattle.abc_scan.specs.declared.field.Field.{Field}
use Rattle.abc_scan.specs.declared.spanned.Spanned.{Spanned}
use Rattle.abc_scan.specs.declared.token.TokenKind.{TokenKind}
use Rattle.abc_bars_body.specs.declared.body.Body.{Body}
use Rattle.abc_bars_header.specs.declared.defaults.Defaults.{Defaults}
use Rattle.abc_bars_body.specs.declared.entry.Entry.{Entry}
use Rattle.abc_bars_body.specs.declared.entry.Entry.TheVariants as entries
use Rattle.abc_bars_header.specs.declared.field_kind.FieldKind.{FieldKind}
use Rattle.abc_bars_header.specs.declared.field_kind.FieldKind.TheVariants as fields
use Rattle.abc_bars_items.specs.Item.{Items}
use Rattle.abc_bars_body.specs.BodyOpening.{body_from}
use Rattle.abc_bars_body.specs.Cell.{empty_cell_result}
use Rattle.abc_bars_header.specs.Defaults.{no_defaults}
use Rattle.abc_bars_header.specs.FieldKind.{kind_of}
use Rattle.abc_bars_header.specs.FileHeader.{file_header_result}
use Rattle.abc_bars_header.specs.Header.{header_result}
use Rattle.abc_bars_header.specs.HeaderLine.{HeaderLine, FieldLine, DirectiveLine}
use Rattle.abc_bars_body.specs.Step.{line_in}
use Rattle.abc_bars.specs.LookBack.BodyState.{body_at}
use Rattle.abc_bars.specs.LookBack.Cells.{after_tokens, look_back}
use Rattle.abc_bars.specs.LookBack.Defaults.{defaults_at}
use Rattle.abc_bars.specs.LookBack.Element.{Element}
use Rattle.abc_bars.specs.LookBack.Header.{file_header_view, header_at, header_view}

-- A place is what is before it, newest first. In a file header that is its lines. In a tune's header it is the values of the file
-- header, and the lines of the tune's header. In a body it is these, the key that ended the header, and the body's elements.
pub data Place : Type 0 where
  InFileHeader : List HeaderLine → Place
  InHeader : Defaults → List HeaderLine → Place
  InBody : Defaults → List HeaderLine → Key → List Element → Place

-- The state at the beginning of a body whose header has these lines.
abbrev pub opening_at : Defaults → List HeaderLine → Key → Body
opening_at opening before key = body_from (header_at opening before) key

-- A law of each place of a tune's body, by the state at the place, the state at the beginning of the body, and what is
-- between the two.
abbrev pub AtEachPlace : (Body → Body → List Element → Type 0) → Type 0
AtEachPlace Holds =
    (opening : Defaults) (fields : List HeaderLine) (key : Key) (before : List Element)
    → Holds (body_at (opening_at opening fields key) before) (opening_at opening fields key) before

-- The view at a place.
abbrev pub view : Place → Entry
view (InFileHeader before) = file_header_view before
view (InHeader opening before) = header_view opening before
view (InBody opening before key elements) = entries.Body (body_at (opening_at opening before key) elements)

-- The kind of a place, by a number: in a file header, at a tune's first line, in its header after that line, in its body.
-- Not in ABC 2.1.
abbrev pub kind_of_place : Place → ℕ
kind_of_place (InFileHeader before) = 0
kind_of_place (InHeader opening []) = 1
kind_of_place (InHeader opening (line ∷ before)) = 2
kind_of_place (InBody opening before key elements) = 3

-- If the views at two places are the same, both are of one kind. Not in ABC 2.1.
abbrev pub KindsApart : Type 0
KindsApart = (here there : Place) → view here ≡ view there → kind_of_place here ≡ kind_of_place there

-- The place after a field of a tune's header, of this kind: after a K: the body begins.
abbrev pub following_field : Defaults → List HeaderLine → Field → FieldKind → Place
following_field opening before field fields.Key = InBody opening (FieldLine field ∷ before) (key_or_empty (key_of field.value)) []
following_field opening before field _ = InHeader opening (FieldLine field ∷ before)

-- The place after a line of a tune's header: no directive ends it.
abbrev pub after_header_line : Defaults → List HeaderLine → HeaderLine → Place
after_header_line opening before (FieldLine field) = following_field opening before field (kind_of field.letter)
after_header_line opening before (DirectiveLine directive) = InHeader opening (DirectiveLine directive ∷ before)

-- The place after a cell of a file header, which is this line or music: the latter has no effect.
abbrev pub after_file_header : List HeaderLine → Option HeaderLine → Place
after_file_header before (Some line) = InFileHeader (line ∷ before)
after_file_header before None = InFileHeader before

-- The place after a cell of a tune's header, which is this line or music: the latter is of the body.
abbrev pub after_header : Defaults → List HeaderLine → List (Spanned TokenKind) → Option HeaderLine → Place
after_header opening before cell (Some line) = after_header_line opening before line
after_header opening before cell None = InBody opening before empty_key (after_tokens cell [])

-- The place after a cell.
abbrev pub place_following : Place → List (Spanned TokenKind) → Place
place_following (InFileHeader before) cell = after_file_header before (line_in cell)
place_following (InHeader opening before) cell = after_header opening before cell (line_in cell)
place_following (InBody opening before key elements) cell = InBody opening before key (after_tokens cell elements)

-- What a cell of a body gives: each of its tokens by what looking back finds at its own place.
abbrev pub result_in_body : Defaults → List HeaderLine → Key → List Element → List (Spanned TokenKind) → Items
result_in_body opening before key elements cell =
    (look_back (opening_at opening before key) elements (empty_cell_result (opening_at opening before key)) cell).items

-- What a cell of a file header gives, which is this line or music.
abbrev pub result_in_file_header : List HeaderLine → Option HeaderLine → Items
result_in_file_header before (Some line) =
    record { items = []; faults = (file_header_result (defaults_at no_defaults before) line).faults }
result_in_file_header before None = record { items = []; faults = [] }

-- What a cell of a tune's header gives, which is this line or music.
abbrev pub result_in_header : Defaults → List HeaderLine → List (Spanned TokenKind) → Option HeaderLine → Items
result_in_header opening before cell (Some line) =
    record {
      items = (header_result (header_at opening before) line).items;
      faults = (header_result (header_at opening before) line).faults;
    }
result_in_header opening before cell None = result_in_body opening before empty_key [] cell

-- What a cell gives at a place.
abbrev pub result_at : Place → List (Spanned TokenKind) → Items
result_at (InFileHeader before) cell = result_in_file_header before (line_in cell)
result_at (InHeader opening before) cell = result_in_header opening before cell (line_in cell)
result_at (InBody opening before key elements) cell = result_in_body opening before key elements cell
