-- The grammar of clefs. ABC 2.1 section 4.6.
use Rattle.std.specs.Prelude.{ℕ, ℤ, pos, negsuc, ◌+◌, ◌≤◌, ◌⊎◌, ◌≡◌, List, [], ◌∷◌, ◌++◌, codes}
use Rattle.std.specs.List.{Contains}
use Rattle.abc_text.specs.Byte.{digit_zero}

-- A text ends in another.
abbrev pub EndsIn : List ℕ → List ℕ → Type 0
EndsIn text end = (front : List ℕ) × (text ≡ front ++ end)

-- The mark of a clef: `+8` raises the written notes by an octave, `-8` lowers them. ABC 2.1 section 4.6.
abbrev pub HasMark : List ℕ → ℤ → Type 0
HasMark text n = (EndsIn text (codes "+8") × (n ≡ pos 12)) ⊎ (EndsIn text (codes "-8") × (n ≡ negsuc 11))

-- A text without such a mark.
abbrev pub HasNoMark : List ℕ → Type 0
HasNoMark text = (n : ℤ) → ¬ HasMark text n

-- The value of a clef: its mark, or 0 if it has none. ABC 2.1 section 4.6.
abbrev pub IsClef : List ℕ → ℤ → Type 0
IsClef text n = HasMark text n ⊎ (HasNoMark text × (n ≡ pos 0))

-- The names of clefs. ABC 2.1 section 4.6.
abbrev pub clef_names : List (List ℕ)
clef_names = codes "treble" ∷ codes "bass" ∷ codes "alto" ∷ codes "tenor" ∷ codes "perc" ∷ []

-- The line of a clef: nothing, or one digit 1 to 5.
abbrev pub IsClefLine : List ℕ → Type 0
IsClefLine line = (line ≡ []) ⊎ ((digit : ℕ) × (digit_zero + 1 ≤ digit) × (digit ≤ digit_zero + 5) × (line ≡ digit ∷ []))

-- A word is the name of a clef, perhaps with the line of its staff.
pub record IsClefName (word : List ℕ) : Type 0 where
  pub name : List ℕ
  pub line : List ℕ
  pub spelling : word ≡ name ++ line
  pub is_name : Contains clef_names name
  pub is_line : IsClefLine line
