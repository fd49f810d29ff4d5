-- The grammar of properties in the fields K: and V:. ABC 2.1 sections 4.6 and 7.1.
use Rattle.std.specs.Prelude.{◌≡◌, ◌≢◌, ℕ, ℤ, pos, neg_ℤ, ◌⊎◌, List, [], ◌∷◌, ◌++◌}
use Rattle.abc_text.specs.Number.{IsNumber}
use Rattle.abc_fields.specs.declared.property.Property.{Property}
use Rattle.abc_fields.specs.declared.property.Property.TheVariants.{Clef, Octave, Transpose, Other}
use Rattle.abc_fields.specs.Property.{clef_name, octave_name, transpose_name}
use Rattle.abc_fields.specs.Spelling.Clef.{HasMark, HasNoMark, IsClef}
use Rattle.abc_text.specs.Byte.{quote, plus_sign, minus_sign}

-- A text between two quotes means the part between them. Any other text means itself. Not in ABC 2.1.
abbrev pub IsUnquoted : List ℕ → List ℕ → Type 0
IsUnquoted text value =
    (text ≡ quote ∷ (value ++ quote ∷ [])) ⊎ ((text ≡ value) × ((inner : List ℕ) → text ≢ quote ∷ (inner ++ quote ∷ [])))

-- A number after `+`, `-`, or nothing.
pub record IsSignedNumber (text : List ℕ) (n : ℤ) : Type 0 where
  pub digits : List ℕ
  pub size : ℕ
  pub number : IsNumber digits size
  pub sign : ((text ≡ digits) × (n ≡ pos size)) ⊎ (((text ≡ plus_sign ∷ digits) × (n ≡ pos size))
      ⊎ ((text ≡ minus_sign ∷ digits) × (n ≡ neg_ℤ (pos size))))

-- A word gives a value to the property of this name.
pub record Gives (name word value : List ℕ) : Type 0 where
  pub text : List ℕ
  pub spelling : word ≡ name ++ text
  pub unquote : IsUnquoted text value

-- A word begins with a name.
abbrev pub BeginsWith : List ℕ → List ℕ → Type 0
BeginsWith name word = (text : List ℕ) × (word ≡ name ++ text)

-- A word begins with none of the three names.
abbrev pub HasNoName : List ℕ → Type 0
HasNoName word = (¬ BeginsWith clef_name word) × (¬ BeginsWith octave_name word) × (¬ BeginsWith transpose_name word)

-- The property that a word sets. A word without a name is a clef if it has a mark. Any other word has no effect, which
-- is not in ABC 2.1.
abbrev pub IsProperty : List ℕ → Property → Type 0
IsProperty word (Clef n) = ((value : List ℕ) × Gives clef_name word value × IsClef value n) ⊎ (HasNoName word × HasMark word n)
IsProperty word (Octave n) = (value : List ℕ) × Gives octave_name word value × IsSignedNumber value n
IsProperty word (Transpose n) = (value : List ℕ) × Gives transpose_name word value × IsSignedNumber value n
IsProperty word Other = HasNoName word × HasNoMark word
