-- The grammar of a meter, the value of a field M:. ABC 2.1 section 3.1.6.
use Rattle.std.specs.Prelude.{ℕ, ◌≡◌, ◌≤◌, ◌⊎◌, List, [], ◌∷◌, ◌++◌, length, sum, codes}
use Rattle.abc_fields.specs.declared.meter.Meter.{Meter}
use Rattle.abc_fields.specs.declared.meter.Meter.TheVariants.{Free, Of}
use Rattle.abc_text.specs.Number.{IsNumber}
use Rattle.abc_text.specs.Power.{IsPowerUpTo}
use Rattle.abc_text.specs.Byte.{open_parenthesis, close_parenthesis, plus_sign, slash}

-- Numbers separated by plus signs.
abbrev pub IsSum : List ℕ → List ℕ → Type 0
IsSum text [] = ⊥
IsSum text (n ∷ []) = IsNumber text n
IsSum text (n ∷ m ∷ more) =
    (front : List ℕ) × (rest : List ℕ) × (text ≡ front ++ plus_sign ∷ rest)
    × IsNumber front n × IsSum rest (m ∷ more)

-- A sum of two numbers or more in parentheses.
pub record IsInParentheses (text : List ℕ) (numbers : List ℕ) : Type 0 where
  pub inner : List ℕ
  pub spelling : text ≡ open_parenthesis ∷ inner ++ close_parenthesis ∷ []
  pub summed : IsSum inner numbers
  pub several : 2 ≤ length numbers

-- The number above the stroke: a number, or a sum with or without parentheses.
pub record IsAbove (text : List ℕ) (total : ℕ) : Type 0 where
  pub numbers : List ℕ
  pub total_is : total ≡ sum numbers
  pub spelling : IsSum text numbers ⊎ IsInParentheses text numbers

-- A number above, 1 to 255, a stroke, and a number below, a power of two up to 64. The bounds are
-- not in ABC 2.1.
pub record IsFraction (text : List ℕ) (num den : ℕ) : Type 0 where
  pub above : List ℕ
  pub below : List ℕ
  pub spelling : text ≡ above ++ slash ∷ below
  pub num_is : IsAbove above num
  pub den_is : IsNumber below den
  pub num_least : 1 ≤ num
  pub num_most : num ≤ 255
  pub den_power : IsPowerUpTo 6 den

-- `C`, common time, is 4/4, and `C|`, cut time, is 2/2.
abbrev pub IsSymbol : List ℕ → ℕ → ℕ → Type 0
IsSymbol text num den = ((text ≡ codes "C") × (num ≡ 4) × (den ≡ 4)) ⊎ ((text ≡ codes "C|") × (num ≡ 2) × (den ≡ 2))

-- The meter of a text. It is free if the text is `none` or empty. The empty text is not in ABC 2.1.
abbrev pub IsMeter : List ℕ → Meter → Type 0
IsMeter text Free = (text ≡ []) ⊎ (text ≡ codes "none")
IsMeter text (Of num den) = IsSymbol text num den ⊎ IsFraction text num den
