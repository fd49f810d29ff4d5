-- The order in which the sections of a tune are played. ABC 2.1 section 3.1.9.
use Rattle.std.specs.Prelude.{◌≡◌, ℕ, ◌+◌, ◌<◌, Bool, false, List, ◌∷◌, length, filter_map, Option, Some, None}
use Rattle.std.specs.List.{list_any, range_with_len}
use Rattle.std.specs.Option.{is_none}
pub use Rattle.abc_fields.specs.Letters.{letters_of}
use Rattle.abc_repeat.specs.Section.{first_section}

-- The sections that are played, among sections with these letters, counted from 1. First comes the opening section, 0.
-- Then comes the first section of each letter of the order, if it has one. Without an order all sections are played in
-- the order of the text. Not in ABC 2.1.
unfoldable pub sections_of : Option (List ℕ) → List ℕ → List ℕ
sections_of None letters = range_with_len 0 (1 + length letters)
sections_of (Some order) letters = 0 ∷ filter_map (first_section letters) (letters_of order)

-- Whether an order has a letter without a section.
unfoldable pub has_unknown : Option (List ℕ) → List ℕ → Bool
has_unknown None letters = false
has_unknown (Some order) letters = list_any (λ letter. is_none (first_section letters letter)) (letters_of order)

-- More than `most` sections would be played; `unknown` is whether the order has a letter without a section.
abbrev pub IsTooLong : ℕ → Option (List ℕ) → List ℕ → Bool → Type 0
IsTooLong most order letters unknown = (most < length (sections_of order letters)) × (unknown ≡ has_unknown order letters)
