-- What a place of a tune keeps of what is before it.
use Rattle.std.specs.Prelude.{◌≡◌, ℕ, List, [], ◌∷◌, Option, Some, None, unwrap_or}
use Rattle.std.specs.Option.{option_or}
use Rattle.abc_fields.specs.declared.key.Key.{Key}
use Rattle.abc_fields.specs.Key.{empty_key, key_of, key_or_empty}
use Rattle.abc_bars_header.specs.HeaderLine.{HeaderLine}
use Rattle.abc_bars.specs.LookBack.Defaults.{said_by_line}
use Rattle.abc_bars_header.specs.declared.defaults.Defaults.{Defaults}
use Rattle.abc_bars_header.specs.declared.field_kind.FieldKind.{FieldKind}
use Rattle.abc_bars_header.specs.declared.field_kind.FieldKind.TheVariants as fields
use Rattle.abc_bars.specs.LookBack.Place.{Place, InFileHeader, InHeader, InBody}

-- The key that a field of this kind says, if it is a K:.
abbrev pub key_said : FieldKind → List ℕ → Option Key
key_said fields.Key value = Some (key_or_empty (key_of value))
key_said _ value = None

-- The key that the last K: among lines says, if there is one.
abbrev pub key_among : List HeaderLine → Option Key
key_among [] = None
key_among (line ∷ before) = option_or (said_by_line key_said line) (key_among before)

-- A place of a tune that began with these values, which it keeps. In the header no line before it is a K:.
-- In the body its key is that of the header's K:, or an empty signature if music ended the header.
abbrev pub IsOfTune : Defaults → Place → Type 0
IsOfTune values (InFileHeader before) = ⊥
IsOfTune values (InHeader opening before) = (opening ≡ values) × (key_among before ≡ None)
IsOfTune values (InBody opening before key elements) = (opening ≡ values) × (key ≡ unwrap_or (key_among before) empty_key)
