-- Clefs. ABC 2.1 section 4.6.
use Rattle.std.specs.Prelude.{ℕ, ℤ, pos, negsuc, ◌+◌, ◌-◌, ◌&&◌, ◌||◌, nat_eq, nat_le, Bool, if◌then◌else◌, List, length, take}
use Rattle.std.specs.Prelude.{codes, slice_index, Option, Some, None}
use Rattle.std.specs.List.{ends_with}
use Rattle.std.specs.Option.{unwrap_or}
use Rattle.std.specs.Str.{bytes_eq}
use Rattle.abc_text.specs.Byte.{digit_zero}

-- The octave of the mark of a clef.
unfoldable pub mark_of : List ℕ → Option ℤ
mark_of text =
    if ends_with nat_eq text (codes "+8") then Some (pos 12)
    else (if ends_with nat_eq text (codes "-8") then Some (negsuc 11)
    else None)

-- The same, but 0 for a clef without a mark.
abbrev pub clef_of : List ℕ → ℤ
clef_of text = unwrap_or (mark_of text) (pos 0)

-- A text is the name of a clef. ABC 2.1 section 4.6.
unfoldable pub names_clef : List ℕ → Bool
names_clef name =
    bytes_eq name (codes "treble") || bytes_eq name (codes "bass") || bytes_eq name (codes "alto")
    || bytes_eq name (codes "tenor") || bytes_eq name (codes "perc")

-- A word without the line of a clef, one digit 1 to 5 at its end.
unfoldable pub without_line : List ℕ → List ℕ
without_line word =
    let front = length word - 1 in
    if nat_le (digit_zero + 1) (slice_index word front) && nat_le (slice_index word front) (digit_zero + 5)
    then take front word else word

-- A word is the name of a clef, perhaps with the line of its staff.
abbrev pub is_clef_name : List ℕ → Bool
is_clef_name word = names_clef (without_line word)
