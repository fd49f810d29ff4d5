-- The end of a line.
use Rattle.std.specs.Prelude.{◌≡◌, ◌≢◌, ◌⊎◌, ℕ, ◌-◌, List, [], ◌∷◌, ◌++◌, length, take, if◌then◌else◌, nat_eq, ◌==◌}
use Rattle.std.specs.List.{ends_with}
use Rattle.abc_text.specs.Byte.{carriage_return}

-- The rest of a line without one carriage return at its end.
abbrev pub IsWithoutReturn : List ℕ → List ℕ → Type 0
IsWithoutReturn line rest =
    (line ≡ rest ++ carriage_return ∷ [])
    ⊎ ((line ≡ rest) × ((front : List ℕ) → line ≢ front ++ carriage_return ∷ []))

-- The line without one carriage return at its end.
abbrev pub without_return : List ℕ → List ℕ
without_return line = if ends_with nat_eq line (carriage_return ∷ []) then take (length line - 1) line else line

-- One carriage return at the end is dropped, and nothing else.
abbrev pub DropsOneReturn : Type 0
DropsOneReturn =
    (without_return [] ≡ [])
    × ((text : List ℕ) (b : ℕ) → without_return (text ++ b ∷ []) ≡ (if b == carriage_return then text else text ++ b ∷ []))
