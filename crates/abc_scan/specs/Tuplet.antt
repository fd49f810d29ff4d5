-- Tuplet marks. ABC 2.1 section 4.13.
use Rattle.std.specs.Prelude.{ℕ, ◌≡◌, ◌+◌, ◌⊎◌, ◌==◌, if◌then◌else◌, List, [], ◌∷◌, ◌++◌, drop, Option, None}
use Rattle.std.specs.Option.{option_map}
use Rattle.abc_text.specs.Number.{IsNumber}
use Rattle.abc_scan.specs.declared.tuplet.Tuplet.{Tuplet}
use Rattle.abc_scan.specs.Byte.{open_parenthesis, colon}
use Rattle.abc_scan.specs.Front.{after_byte}
use Rattle.abc_scan.specs.Number.{IsOptionalNumber, number_at, optional_number_at}

-- A colon, and a number or none.
pub record HasColon (text : List ℕ) (value : Option ℕ) : Type 0 where
  pub written : List ℕ
  pub spelling : text ≡ colon ∷ written
  pub value_is : IsOptionalNumber written value

-- A further number of a mark, with its colon, or nothing.
abbrev pub IsFurther : List ℕ → Option ℕ → Type 0
IsFurther text value = ((text ≡ []) × (value ≡ None)) ⊎ HasColon text value

-- A tuplet mark: a parenthesis and p, and after colons q and r, each of which may be empty or
-- absent. ABC 2.1 section 4.13.
pub record IsTuplet (text : List ℕ) (tuplet : Tuplet) : Type 0 where
  pub p_text : List ℕ
  pub q_text : List ℕ
  pub r_text : List ℕ
  pub spelling : text ≡ open_parenthesis ∷ (p_text ++ (q_text ++ r_text))
  pub p_is : IsNumber p_text tuplet.p
  pub q_is : IsFurther q_text tuplet.q
  pub r_is : IsFurther r_text tuplet.r
  pub q_first : q_text ≡ [] → r_text ≡ []

-- The longest further number at the front of a text, and its size in bytes.
abbrev pub further_at : List ℕ → Option ℕ × ℕ
further_at [] = (None, 0)
further_at (b ∷ bs) = if b == colon then after_byte (optional_number_at bs) else (None, 0)

-- The longest mark of the text after its parenthesis, which begins with p, and its size in bytes.
abbrev pub tuplet_after : List ℕ → ℕ × ℕ → Tuplet × ℕ
tuplet_after rest p =
    let q = further_at (drop p.1 rest) in
    let r = further_at (drop q.1 (drop p.1 rest)) in
    (record { p = p.0; q = q.0; r = r.0 }, 1 + p.1 + q.1 + r.1)

-- The longest tuplet mark at the front of a text, and its size in bytes.
unfoldable pub tuplet_at : List ℕ → Option (Tuplet × ℕ)
tuplet_at [] = None
tuplet_at (b ∷ rest) = if b == open_parenthesis then option_map (tuplet_after rest) (number_at rest) else None
