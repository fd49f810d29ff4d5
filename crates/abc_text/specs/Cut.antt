-- A text cut at a byte.
use Rattle.std.specs.Prelude.{ℕ, ◌≡◌, ◌==◌, nat_lt, not, if◌then◌else◌, List, ◌∷◌, ◌++◌, length, Option, Some, None}
use Rattle.std.specs.List.{AllPass, position_or_len, before_first, after_first}

-- A text has no byte of this value.
abbrev pub HasNoByte : ℕ → List ℕ → Type 0
HasNoByte byte text = AllPass (λ b. not (b == byte)) text

-- A text is a front without the byte, the byte, and a rest.
pub record IsCut (byte : ℕ) (text front rest : List ℕ) : Type 0 where
  pub spelling : text ≡ front ++ byte ∷ rest
  pub first : HasNoByte byte front

-- The parts of a text before and after the first byte of this value.
unfoldable pub cut_at : ℕ → List ℕ → Option (List ℕ × List ℕ)
cut_at byte text =
    if nat_lt (position_or_len (λ b. b == byte) text) (length text)
    then Some (before_first (λ b. b == byte) text, after_first (λ b. b == byte) text)
    else None
