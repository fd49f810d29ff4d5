-- The properties of the fields K: and V:. ABC 2.1 sections 4.6 and 7.1.
use Rattle.std.specs.Prelude.{ℕ, ℤ, pos, neg_ℤ, ◌-◌, ◌==◌, ◌&&◌, nat_le, Bool, Option, Some, None, List, [], ◌∷◌, length}
use Rattle.std.specs.Prelude.{drop, codes, slice_index, slice_range, if◌then◌else◌}
use Rattle.std.specs.Option.{option_map, option_map_or}
use Rattle.abc_text.specs.Number.{number_of}
use Rattle.abc_text.specs.Word.{begins_with}
use Rattle.abc_fields.specs.declared.property.Property.{Property}
use Rattle.abc_fields.specs.declared.property.Property.TheVariants.{Clef, Octave, Transpose, Other}
use Rattle.abc_fields.specs.Clef.{clef_of, mark_of}
use Rattle.abc_text.specs.Byte.{quote, plus_sign, minus_sign}

-- The name of the clef.
abbrev pub clef_name : List ℕ
clef_name = codes "clef="

-- The name of the octave.
abbrev pub octave_name : List ℕ
octave_name = codes "octave="

-- The name of the transposition.
abbrev pub transpose_name : List ℕ
transpose_name = codes "transpose="

-- A text between two quotes.
abbrev pub is_quoted : List ℕ → Bool
is_quoted text = nat_le 2 (length text) && (slice_index text 0 == quote) && (slice_index text (length text - 1) == quote)

-- A text without the quotes at its ends.
unfoldable pub unquote : List ℕ → List ℕ
unquote text = if is_quoted text then slice_range text 1 (length text - 1) else text

-- A number with a sign or without one.
unfoldable pub signed_number : List ℕ → Option ℤ
signed_number [] = None
signed_number (b ∷ bs) =
    if b == minus_sign then option_map (λ n. neg_ℤ (pos n)) (number_of bs)
    else (if b == plus_sign then option_map pos (number_of bs)
    else option_map pos (number_of (b ∷ bs)))

-- The property that a word sets; none if its number is refused.
unfoldable pub property_of : List ℕ → Option Property
property_of word =
    if begins_with clef_name word then Some (Clef (clef_of (unquote (drop (length clef_name) word))))
    else (if begins_with octave_name word then option_map Octave (signed_number (unquote (drop (length octave_name) word)))
    else (if begins_with transpose_name word then option_map Transpose (signed_number (unquote (drop (length transpose_name) word)))
    else Some (option_map_or Clef (mark_of word) Other)))
