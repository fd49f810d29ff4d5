-- The grammar of an order of parts, the value of a field P: in a header. ABC 2.1 section 3.1.9.
use Rattle.std.specs.Prelude.{ℕ, ◌≡◌, ◌+◌, ◌<◌, true, List, [], ◌∷◌, ◌++◌, replicate}
use Rattle.std.specs.List.{concat}
use Rattle.std.specs.Char.{is_ascii_uppercase}
use Rattle.abc_text.specs.Number.{IsNumber}
use Rattle.abc_fields.specs.Parts.{order_bytes}
use Rattle.abc_fields.specs.declared.parts.TheConstants.{DEEPEST_GROUP}
use Rattle.abc_text.specs.Byte.{open_parenthesis, close_parenthesis}

-- The count of an item: the number after it, or 1 if there is none.
pub data IsCount : List ℕ → ℕ → Type 0 where
  once : IsCount [] 1
  times : {text : List ℕ} {n : ℕ} → IsNumber text n → 0 < n → IsCount text n

-- An order inside this number of groups, at most `DEEPEST_GROUP`, and the letters of the parts that it plays. It is a letter and its
-- count; a group, which is an order in parentheses, and its count; or two orders, one after the other.
pub data IsOrder : ℕ → List ℕ → List ℕ → Type 0 where
  part : {depth letter n : ℕ} {count : List ℕ} → is_ascii_uppercase letter ≡ true → IsCount count n
      → IsOrder depth (letter ∷ count) (replicate n letter)
  group : {depth n : ℕ} {inner count letters : List ℕ} → depth < DEEPEST_GROUP → IsOrder (depth + 1) inner letters → IsCount count n
      → IsOrder depth (open_parenthesis ∷ (inner ++ close_parenthesis ∷ count)) (concat (replicate n letters))
  following : {depth : ℕ} {front back first second : List ℕ} → IsOrder depth front first → IsOrder depth back second
      → IsOrder depth (front ++ back) (first ++ second)

-- The letters of the parts that a P: in a header plays, in order.
abbrev pub IsParts : List ℕ → List ℕ → Type 0
IsParts value letters = IsOrder 0 (order_bytes value) letters
