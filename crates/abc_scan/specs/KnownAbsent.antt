-- Closing bytes, and the memory of failed searches for them.
use Rattle.std.specs.Prelude.{◌≡◌, ℕ, true, Option, List, ◌==◌}
use Rattle.std.specs.List.{position}
use Rattle.abc_text.specs.Cut.{HasNoByte}
use Rattle.abc_scan.specs.declared.known_absent.KnownAbsent.{KnownAbsent}
use Rattle.abc_scan.specs.Byte.{closing_brace, closing_bracket}

-- The place of the first closing byte.
abbrev pub place_of : ℕ → List ℕ → Option ℕ
place_of closing text = position (λ b. b == closing) text

-- A byte that is known to be absent is nowhere in the text.
pub record IsKnownAbsent (absent : KnownAbsent) (text : List ℕ) : Type 0 where
  pub no_brace : absent.brace ≡ true → HasNoByte closing_brace text
  pub no_bracket : absent.bracket ≡ true → HasNoByte closing_bracket text
