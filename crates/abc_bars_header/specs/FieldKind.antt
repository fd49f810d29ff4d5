-- The letters of the fields that have an effect. ABC 2.1 section 3.
use Rattle.std.specs.Prelude.{ℕ, ◌==◌, if◌then◌else◌}
use Rattle.abc_bars_header.specs.declared.field_kind.FieldKind.{FieldKind}
use Rattle.abc_bars_header.specs.declared.field_kind.FieldKind.TheVariants as kinds
use Rattle.abc_bars_header.specs.declared.field_kind.TheConstants.{REFERENCE, TITLE, METER, UNIT_LENGTH, TEMPO, PARTS, VOICE, KEY}

-- The kind of the field with a letter.
abbrev pub kind_of : ℕ → FieldKind
kind_of letter =
    if letter == REFERENCE then kinds.Reference
    else (if letter == TITLE then kinds.Title
    else (if letter == METER then kinds.Meter
    else (if letter == UNIT_LENGTH then kinds.UnitLength
    else (if letter == TEMPO then kinds.Tempo
    else (if letter == PARTS then kinds.Parts
    else (if letter == VOICE then kinds.Voice
    else (if letter == KEY then kinds.Key
    else kinds.Other)))))))
