-- The grammar of accidentals in a field K:. ABC 2.1 section 3.1.14.
use Rattle.std.specs.Prelude.{ℕ, ◌≡◌, List, [], ◌∷◌, ◌++◌}
use Rattle.abc_text.specs.Accidental.{spelling as spelled}
use Rattle.abc_text.specs.Letter.{IsLetter}
use Rattle.abc_fields.specs.declared.accidental.SignatureChange.{SignatureChange}

-- A text begins with a change, an accidental and a letter, and continues with the rest.
pub record IsChange (text : List ℕ) (change : SignatureChange) (rest : List ℕ) : Type 0 where
  pub byte : ℕ
  pub spelling : text ≡ spelled change.accidental ++ (byte ∷ rest)
  pub letter : IsLetter byte change.letter

-- A text consists of changes, one directly after the other. With one or more it is a word of accidentals.
abbrev pub AreChanges : List ℕ → List SignatureChange → Type 0
AreChanges text [] = text ≡ []
AreChanges text (change ∷ changes) = (rest : List ℕ) × IsChange text change rest × AreChanges rest changes
