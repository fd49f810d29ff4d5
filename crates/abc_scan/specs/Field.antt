-- Information fields. ABC 2.1 section 3.
use Rattle.std.specs.Prelude.{ℕ, Bool, false, ◌&&◌, ◌==◌, List, [], ◌∷◌, drop, slice_index}
use Rattle.std.specs.Char.{is_ascii_alphabetic}
use Rattle.abc_text.specs.Blank.{trim_blanks}
use Rattle.abc_scan.specs.declared.field.Field.{Field}
use Rattle.abc_scan.specs.Byte.{colon}

-- The text begins with a letter and a colon.
abbrev pub begins_field : List ℕ → Bool
begins_field [] = false
begins_field (letter ∷ []) = false
begins_field (letter ∷ sign ∷ rest) = is_ascii_alphabetic letter && (sign == colon)

-- The field of a text: its letter, and the text after the colon. Blanks at the ends are no part of a value.
abbrev pub field_of : List ℕ → Field
field_of text = record { letter = slice_index text 0; value = trim_blanks (drop 2 text) }
