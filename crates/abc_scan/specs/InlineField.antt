-- Fields inside a music line, as `[K:G]`. ABC 2.1 section 3.2.
use Rattle.std.specs.Prelude.{◌≡◌, ℕ, ◌+◌, Bool, false, ◌&&◌, IsTrue, Option, None, List, [], ◌∷◌, ◌++◌, take, if◌then◌else◌, ◌==◌}
use Rattle.std.specs.Char.{is_ascii_alphabetic}
use Rattle.std.specs.Option.{option_map}
use Rattle.abc_text.specs.Blank.{trim_blanks}
use Rattle.abc_text.specs.Cut.{HasNoByte}
use Rattle.abc_scan.specs.declared.field.Field.{Field}
use Rattle.abc_scan.specs.Byte.{opening_bracket, closing_bracket, colon}
use Rattle.abc_scan.specs.KnownAbsent.{place_of}
use Rattle.abc_scan.specs.Field.{begins_field, field_of}

-- `[`, a letter, a colon, bytes other than `]`, and `]`. The value is the bytes without the blanks at
-- their ends.
pub record IsInlineField (text : List ℕ) (field : Field) : Type 0 where
  pub following : List ℕ
  pub spelling : text ≡ opening_bracket ∷ field.letter ∷ colon ∷ (following ++ closing_bracket ∷ [])
  pub letter_is : IsTrue (is_ascii_alphabetic field.letter)
  pub first_closing : HasNoByte closing_bracket following
  pub value_is : field.value ≡ trim_blanks following

-- The text begins with a bracket, a letter and a colon.
abbrev pub opens_field : List ℕ → Bool
opens_field [] = false
opens_field (b ∷ inside) = (b == opening_bracket) && begins_field inside

-- The field that begins a text and ends at its first `]`, and its size in bytes with both brackets.
abbrev pub closed_field : List ℕ → Option (Field × ℕ)
closed_field inside = option_map (λ place. (field_of (take place inside), place + 2)) (place_of closing_bracket inside)

-- The inline field at the front of a text, and its size in bytes.
unfoldable pub inline_field_at : List ℕ → Option (Field × ℕ)
inline_field_at [] = None
inline_field_at (b ∷ inside) = if (b == opening_bracket) && begins_field inside then closed_field inside else None
