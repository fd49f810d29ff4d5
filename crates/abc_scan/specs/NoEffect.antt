-- Tokens without effect. ABC 2.1 sections 4.7, 4.11, 4.12, 4.14, 4.16, 4.18, 4.19, 6.1 and 8.1.
use Rattle.std.specs.Prelude.{◌≡◌, ◌⊎◌, ℕ, ◌+◌, Option, Some, None, List, [], ◌∷◌, IsTrue, if◌then◌else◌, ◌==◌}
use Rattle.abc_scan.specs.Byte.{small_y}
use Rattle.abc_scan.specs.Delimited.{IsDelimited}
use Rattle.abc_scan.specs.Number.{IsOptionalNumber, optional_number_at}
use Rattle.abc_scan.specs.Start.{has_no_effect}

-- A `y`, which sets notes apart, with a number or none. ABC 2.1 section 6.1.2.
pub record IsExtraSpace (text : List ℕ) : Type 0 where
  pub written : List ℕ
  pub width : Option ℕ
  pub spelling : text ≡ small_y ∷ written
  pub width_is : IsOptionalNumber written width

-- One byte that has no effect.
pub record IsSingle (text : List ℕ) : Type 0 where
  pub byte : ℕ
  pub spelling : text ≡ byte ∷ []
  pub silent : IsTrue (has_no_effect byte)

-- A token without effect that is no blank: quoted text, a decoration, a grace group, an extra space, or one byte.
abbrev pub HasNoEffect : List ℕ → Type 0
HasNoEffect text = IsDelimited text ⊎ (IsExtraSpace text ⊎ IsSingle text)

-- The size in bytes of the extra space at the front of a text.
unfoldable pub extra_space_at : List ℕ → Option ℕ
extra_space_at [] = None
extra_space_at (b ∷ rest) = if b == small_y then Some (1 + (optional_number_at rest).1) else None
