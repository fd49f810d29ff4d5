-- Rests of whole bars. ABC 2.1 section 4.5.
use Rattle.std.specs.Prelude.{◌≡◌, ◌⊎◌, ℕ, Bool, ◌||◌, Option, Some, None, List, [], ◌∷◌, if◌then◌else◌, ◌==◌}
use Rattle.abc_scan.specs.Front.{after_byte}
use Rattle.abc_scan.specs.Number.{IsOptionalNumber, optional_number_at}

-- `Z` or `X`, and the number of bars, if one is written.
pub record IsBarRest (text : List ℕ) (bars : Option ℕ) : Type 0 where
  pub letter : ℕ
  pub written : List ℕ
  pub spelling : text ≡ letter ∷ written
  pub letter_is : (letter ≡ 90) ⊎ (letter ≡ 88)
  pub bars_are : IsOptionalNumber written bars

-- `Z` or `X`.
abbrev pub is_bar_rest_letter : ℕ → Bool
is_bar_rest_letter b = (b == 90) || (b == 88)

-- The longest rest of bars at the front of a text, and its size in bytes.
unfoldable pub bar_rest_at : List ℕ → Option (Option ℕ × ℕ)
bar_rest_at [] = None
bar_rest_at (b ∷ rest) = if is_bar_rest_letter b then Some (after_byte (optional_number_at rest)) else None
