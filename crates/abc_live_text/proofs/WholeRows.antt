-- The rows of a whole text: what they have of its lines, and the chains that hold them.
use Rattle.std.proofs.Common.{◌≡◌, ℕ, ◌+◌, List, [], ◌∷◌, ◌++◌, map, drop, None}
use Rattle.abc_book.specs.declared.block.Block.{Block}
use Rattle.abc_lines.specs.Text.{Text}
use Rattle.abc_tune_compiler.specs.Rules.{Rules}
use Rattle.abc_live_text.specs.Pieces.{cells_in, class_in}
use Rattle.abc_live_text.specs.Origin.{rows_between, rows_along}
use Rattle.abc_live_text.specs.Row.{CarriedRow, at_origin}

-- Rows have the classes and the cells of the lines of a text.
pub record AreRead {State Cell Items Defaults : Type 0} (rules : Rules State Cell Items Defaults) (text : Text) (rows : List (CarriedRow Cell)) : Type 0 where
  pub classes : map class_in rows ≡ map rules.class text
  pub cells : map cells_in rows ≡ map rules.cells text

-- The lines of a text from one on, if chains of these numbers hold them.
abbrev pub placed_from : {Cell : Type 0} → List (CarriedRow Cell) → ℕ → ℕ → List Block → List (CarriedRow Cell)
placed_from rows at source [] = map (at_origin None) (drop at rows)
placed_from rows at source (block ∷ blocks) =
    map (at_origin None) (rows_between rows at block.from)
    ++ (rows_along source 0 (rows_between rows block.from block.to) ++ placed_from rows block.to (source + 1) blocks)
