-- Lines of digits have no line feed.
use Rattle.std.proofs.Common.{◌≡◌, ℕ, ◌+◌, ◌==◌, true, false, List, [], ◌∷◌, refl, arith}
use Rattle.std.proofs.lemmas.Bool.Decides.{nat_tests}
use Rattle.abc_lines.specs.Text.{is_line}

high : (a : ℕ) → (48 + a == 10) ≡ false
high a = grind (arith, nat_tests)

pub digits : (a b : ℕ) → is_line (99 ∷ (48 + a) ∷ (48 + b) ∷ []) ≡ true
digits a b = rw (high a, high b) refl
