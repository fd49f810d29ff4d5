-- Chains that are folds over the cells of blocks of a text, and which of them have the items of old ones. Not in ABC 2.1.
use Rattle.std.specs.Prelude.{◌≡◌, ℕ, true, List, Option, Some, IfSome, IsSome, slice_get}
use Rattle.std.specs.List.{AllZip, flat_map}
use Rattle.abc_book.specs.declared.block.Block.{Block}
use Rattle.abc_fold.specs.Chain.{ChainView, Folds}
use Rattle.abc_fold.specs.Steps.{Steps}
use Rattle.abc_lines.specs.Text.{Splice, Text, spliced}
use Rattle.abc_tune_compiler.specs.Rules.{Rules}
use Rattle.abc_tune_compiler.specs.Tune.{lines_in}
use Rattle.abc_live_cost.specs.Spot.{spots_of}
use Rattle.abc_live_cost.specs.FreshCells.{is_untouched}
use Rattle.abc_live_cost.specs.Layout.{layout_of, tune_chains}

-- A chain is the fold over the cells of the lines of a block, from an opening.
pub record IsChainOf {State Cell Items : Type 0} (steps : Steps State Cell Items) (read : List ℕ → List Cell) (opening : State)
    (text : Text) (chain : ChainView State Cell Items) (block : Block) : Type 0 where
  pub folds : Folds steps opening chain
  pub cells : chain.cells ≡ flat_map read (lines_in text block)

-- If an old chain is named, it has the items of this chain.
abbrev pub HasItemsOf : {State Cell Items : Type 0} → List (ChainView State Cell Items) → ChainView State Cell Items → Option ℕ
    → Type 0
HasItemsOf {State = State} {Cell = Cell} {Items = Items} olds chain reused_tunes =
    IfSome reused_tunes (λ old. (was : ChainView State Cell Items) × (slice_get olds old ≡ Some was) × (was.items ≡ chain.items))

-- Each untouched tune of the text after a splice has the items of an old one.
abbrev pub TakesUntouched : {State Cell Items Defaults : Type 0} → Steps State Cell Items → Rules State Cell Items Defaults
    → Text → Splice → List (Option ℕ) → Type 0
TakesUntouched steps rules text s reused_tunes =
    AllZip (λ tune old. is_untouched steps rules.cells (layout_of steps rules text) s
    (spots_of steps rules.cells (spliced text s) tune) ≡ true → IsSome old)
    (tune_chains 1 (layout_of steps rules (spliced text s)).opening (layout_of steps rules (spliced text s)).tunes) reused_tunes
