-- What the places of a tune keep.
use Rattle.std.proofs.Common.{◌≡◌, List, [], ◌∷◌, Option, Some, None, unwrap_or, refl, sym, ap, ◌∙◌}
use Rattle.std.specs.Option.{option_or}
use Rattle.abc_fields.specs.declared.key.Key.{Key}
use Rattle.abc_fields.specs.Key.{empty_key}
use Rattle.abc_scan.specs.declared.field.Field.{Field}
use Rattle.abc_bars_header.specs.declared.defaults.Defaults.{Defaults}
use Rattle.abc_bars_header.specs.declared.field_kind.FieldKind.{FieldKind}
use Rattle.abc_bars_header.specs.declared.field_kind.FieldKind.TheVariants as fields
use Rattle.abc_bars_header.specs.FieldKind.{kind_of}
use Rattle.abc_bars_header.specs.HeaderLine.{HeaderLine, FieldLine, DirectiveLine}
use Rattle.abc_bars_body.specs.Step.{line_in}
use Rattle.abc_bars.specs.LookBack.Along.{CellTokens, place_after, tune_beginning, values_of_header}
use Rattle.abc_bars.specs.LookBack.Place.{Place, InFileHeader, InHeader, InBody, following_field, after_header, after_header_line, place_following}
use Rattle.abc_bars.specs.LookBack.TunePlaces.{IsOfTune, key_among, key_said}

module _ (values opening : Defaults) (before : List HeaderLine) (same : opening ≡ values) (keyless : key_among before ≡ None) where
  -- No K: is among the fields after one that is none.
  still : (field : Field) (kind : FieldKind) → kind_of field.letter ≡ kind → key_said kind field.value ≡ None → key_among (FieldLine field ∷ before) ≡ None
  still field kind is none =
      ap (λ (kind : FieldKind). option_or (key_said kind field.value) (key_among before)) is
      ∙ ap (λ (key : Option Key). option_or key (key_among before)) none ∙ keyless

  kept-field : (field : Field) (kind : FieldKind) → kind_of field.letter ≡ kind → IsOfTune values (following_field opening before field kind)
  kept-field field fields.Key is =
      (same, sym (ap (λ (kind : FieldKind). unwrap_or (option_or (key_said kind field.value) (key_among before)) empty_key) is))
  kept-field field kind is = (same, still field kind is refl)

  kept-line : (line : HeaderLine) → IsOfTune values (after_header_line opening before line)
  kept-line (FieldLine field) = kept-field field (kind_of field.letter) refl
  kept-line (DirectiveLine directive) = (same, keyless)

  kept-header : (cell : CellTokens) (line : Option HeaderLine) → IsOfTune values (after_header opening before cell line)
  kept-header cell (Some line) = kept-line line
  kept-header cell None = (same, sym (ap (λ (key : Option Key). unwrap_or key empty_key) keyless))

kept-following : (values : Defaults) (place : Place) (cell : CellTokens) → IsOfTune values place → IsOfTune values (place_following place cell)
kept-following values (InFileHeader before) cell kept = absurd kept
kept-following values (InHeader opening before) cell kept = kept-header values opening before kept.0 kept.1 cell (line_in cell)
kept-following values (InBody opening before key elements) cell kept = kept

kept-after : (values : Defaults) (place : Place) (cells : List CellTokens) → IsOfTune values place → IsOfTune values (place_after place cells)
kept-after values place [] kept = kept
kept-after values place (cell ∷ cells) kept = kept-after values (place_following place cell) cells (kept-following values place cell kept)

-- What the cells of a tune lead to is a place of it.
pub places_kept : (header : Option (List CellTokens)) (cells : List CellTokens) → IsOfTune (values_of_header header) (place_after (tune_beginning header) cells)
places_kept header cells = kept-after (values_of_header header) (tune_beginning header) cells (refl, refl)
