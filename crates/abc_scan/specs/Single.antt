-- Tokens of one byte.
use Rattle.std.specs.Prelude.{◌≡◌, ℕ, List, [], ◌∷◌, IsTrue}
use Rattle.abc_text.specs.Blank.{is_blank}
use Rattle.abc_scan.specs.Byte.{minus_sign}

-- A blank token is one space or tab. Not in ABC 2.1.
pub record IsBlankToken (text : List ℕ) : Type 0 where
  pub byte : ℕ
  pub spelling : text ≡ byte ∷ []
  pub blank : IsTrue (is_blank byte)

-- A tie: `-`. ABC 2.1 section 4.11.
abbrev pub IsTie : List ℕ → Type 0
IsTie text = text ≡ minus_sign ∷ []
