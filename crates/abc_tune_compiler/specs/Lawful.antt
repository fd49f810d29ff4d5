-- What a session relies on of a compiler's definitions. Not in ABC 2.1.
use Rattle.std.specs.Prelude.{◌≡◌, ◌↔◌, ◌⊎◌, ℕ, List, [], Some, None}
use Rattle.abc_fold.specs.Steps.{Steps, IsAlike}
use Rattle.abc_scan.specs.declared.line_class.LineClass.TheVariants.{Blank, Comment}
use Rattle.abc_tune_compiler.specs.Rules.{Rules}

-- Equivalent states have equal defaults. Tunes with equal defaults begin in equivalent states. A tune without a
-- file header begins as one after a file header without cells. The lines without cells are blank lines and comments.
pub record AreLawful {State Cell Items Defaults : Type 0} (steps : Steps State Cell Items)
    (rules : Rules State Cell Items Defaults) : Type 0 where
  pub equal_defaults : (a b : State) → IsAlike steps a b → rules.defaults a ≡ rules.defaults b
  pub alike_openings : (a b : State) → rules.defaults a ≡ rules.defaults b
      → IsAlike steps (rules.tune (Some a)) (rules.tune (Some b))
  pub without_header : IsAlike steps (rules.tune None) (rules.tune (Some rules.header))
  pub without_cells : (line : List ℕ) → (rules.cells line ≡ []) ↔ ((rules.class line ≡ Blank) ⊎ (rules.class line ≡ Comment))
