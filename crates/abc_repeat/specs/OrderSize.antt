-- The number of sections that the front of an order plays, counted without memory.
use Rattle.std.specs.Prelude.{◌≡◌, ℕ, ◌-◌, ◌^◌, min, List, [], ◌∷◌, ◌++◌, length, filter_map, Option}
use Rattle.abc_fields.specs.Letters.{OrderLetters}
use Rattle.abc_repeat.specs.declared.order_size.OrderSize.{OrderSize}

-- The number of sections that letters play, at most 2^64 - 1.
abbrev pub size_of : (ℕ → Option ℕ) → List ℕ → ℕ
size_of section letters = min (length (filter_map section letters)) (2 ^ 64 - 1)

-- The same for each of some lists, the first one last.
abbrev pub sizes_of : (ℕ → Option ℕ) → List (List ℕ) → List ℕ
sizes_of section [] = []
sizes_of section (letters ∷ around) = sizes_of section around ++ size_of section letters ∷ []

-- The size of the play of the front of an order, part by part.
pub record IsSizeOf (section : ℕ → Option ℕ) (played : OrderLetters) (size : OrderSize) : Type 0 where
  pub around : size.around.items ≡ sizes_of section played.around
  pub before : size.before ≡ size_of section played.before
  pub item : size.item ≡ size_of section played.item
  pub count : size.count ≡ played.count
