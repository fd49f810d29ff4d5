-- The chains of one tune of the toy language, of a title and a line of music that is a fault. Not in ABC 2.1.
use Rattle.std.specs.Prelude.{◌≡◌, ℕ, List, [], ◌∷◌}
use Rattle.abc_fold.specs.Chain.{ChainView, Folds}
use Rattle.tests_live.specs.declared.toy.Played.{Played}
use Rattle.tests_live.specs.Toy.{no_byte, toy_steps}

-- The lines `T:A` and `!c`.
abbrev pub titled_lines : List (List ℕ)
titled_lines = (84 ∷ 58 ∷ 65 ∷ []) ∷ (33 ∷ 99 ∷ []) ∷ []

-- One chain: the toy's fold over these lines, without a file header before them.
abbrev pub AreOfTitled : List (ChainView ℕ (List ℕ) Played) → Type 0
AreOfTitled [] = ⊥
AreOfTitled (chain ∷ []) = (chain.cells ≡ titled_lines) × Folds toy_steps no_byte chain
AreOfTitled (chain ∷ another ∷ rest) = ⊥
