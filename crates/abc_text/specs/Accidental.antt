-- The accidentals of notes. ABC 2.1 section 4.2.
use Rattle.std.specs.Prelude.{ℕ, ℤ, pos, negsuc, List, codes, Option, Some, None, if◌then◌else◌}
use Rattle.std.specs.Str.{bytes_eq}
use Rattle.abc_text.specs.declared.accidental.Accidental.{Accidental}
use Rattle.abc_text.specs.declared.accidental.Accidental.TheVariants.{DoubleFlat, Flat, Natural, Sharp, DoubleSharp}

-- The spelling of an accidental.
abbrev pub spelling : Accidental → List ℕ
spelling DoubleFlat = codes "__"
spelling Flat = codes "_"
spelling Natural = codes "="
spelling Sharp = codes "^"
spelling DoubleSharp = codes "^^"

-- The alteration of a note in semitones.
abbrev pub alteration : Accidental → ℤ
alteration DoubleFlat = negsuc 1
alteration Flat = negsuc 0
alteration Natural = pos 0
alteration Sharp = pos 1
alteration DoubleSharp = pos 2

-- The accidental that a whole text spells.
unfoldable pub accidental_of : List ℕ → Option Accidental
accidental_of text =
    if bytes_eq text (spelling DoubleFlat) then Some DoubleFlat
    else (if bytes_eq text (spelling Flat) then Some Flat
    else (if bytes_eq text (spelling Natural) then Some Natural
    else (if bytes_eq text (spelling Sharp) then Some Sharp
    else (if bytes_eq text (spelling DoubleSharp) then Some DoubleSharp
    else None))))
