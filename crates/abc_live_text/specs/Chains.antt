-- The chains of a text: those of its file header and its tunes. Not in ABC 2.1.
use Rattle.std.specs.Prelude.{◌≡◌, ℕ, List, [], ◌∷◌, length, slice_get, Option, Some, None}
use Rattle.std.specs.List.{AllZip}
use Rattle.abc_book.specs.declared.block.Block.{Block}
use Rattle.abc_book.specs.declared.block.BlockKind.TheVariants.{Free}
use Rattle.abc_fold.specs.Chain.{ChainView, no_cells}
use Rattle.abc_fold.specs.Steps.{Steps}
use Rattle.abc_lines.specs.Text.{Text}
use Rattle.abc_tune_compiler.specs.Book.{blocks_in, header_in, opening_of, tunes_in}
use Rattle.abc_tune_compiler.specs.Rules.{Rules}
use Rattle.abc_live_text.specs.Pieces.{IsChain, steps_taken}
use Rattle.abc_live_text.specs.Row.{CarriedRow}
use Rattle.abc_live_cost.specs.OldItems.{IsChainOf}

-- The chain of a file header, by rows; if there is none, it has no cells and no states.
abbrev pub IsHeaderChain : {State Cell Items : Type 0} → Steps State Cell Items → State → List (CarriedRow Cell)
    → ChainView State Cell Items → Option Block → Type 0
IsHeaderChain steps first rows chain None = chain ≡ no_cells
IsHeaderChain steps first rows chain (Some block) = IsChain steps first rows chain block

-- The steps that it takes.
abbrev pub header_steps : {State Cell Items : Type 0} → Steps State Cell Items → State → List (ChainView State Cell Items)
    → List (CarriedRow Cell) → Option Block → ℕ
header_steps steps first old rows None = 0
header_steps steps first old rows (Some block) = steps_taken steps first old rows block

-- The state in which it leaves its last cell, if there is a file header.
abbrev pub state_after_chain : {State Cell Items : Type 0} → Option Block → ChainView State Cell Items → Option State
state_after_chain None chain = None
state_after_chain (Some block) chain = slice_get chain.entries (length chain.cells)

-- The chain of a file header, by the lines of its text.
abbrev pub IsHeaderChainOf : {State Cell Items Defaults : Type 0} → Steps State Cell Items → Rules State Cell Items Defaults
    → Text → ChainView State Cell Items → Option Block → Type 0
IsHeaderChainOf steps rules text chain None = chain ≡ no_cells
IsHeaderChainOf steps rules text chain (Some block) = IsChainOf steps rules.cells rules.header text chain block

-- The chains of a text, that of the file header first: the folds over its blocks from the states in which they begin by
-- definition.
abbrev pub AreChains : {State Cell Items Defaults : Type 0} → Steps State Cell Items → Rules State Cell Items Defaults → Text
    → List (ChainView State Cell Items) → Type 0
AreChains steps rules text [] = ⊥
AreChains steps rules text (header ∷ tunes) =
    IsHeaderChainOf steps rules text header (header_in (blocks_in rules text))
    × AllZip (IsChainOf steps rules.cells (opening_of steps.next rules text (blocks_in rules text)) text) tunes
    (tunes_in (blocks_in rules text))

-- The place of the file header's chain; without one, an empty place.
abbrev pub header_place : Option Block → Block
header_place None = record { kind = Free; from = 0; to = 0 }
header_place (Some block) = block

-- The places of the chains of a text, in order.
abbrev pub places_of : List Block → List Block
places_of blocks = header_place (header_in blocks) ∷ tunes_in blocks
