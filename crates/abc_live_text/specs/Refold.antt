-- The inputs of the folds of an edited text. Not in ABC 2.1.
use Rattle.std.specs.Prelude.{ℕ, All, length}
use Rattle.std.specs.List.{sum_by}
use Rattle.abc_book.specs.declared.block.Block.{Block}
use Rattle.abc_fold.specs.Chain.{ChainView}
use Rattle.abc_fold.specs.Steps.{Steps}
use Rattle.abc_live_text.specs.Blocks.{tunes_among}
use Rattle.abc_live_text.specs.Pieces.{IsCarried, IsChain, IsFolded, LiesWithin, steps_taken}
use Rattle.abc_live_text.specs.declared.refold.Refold.{Refold}

-- The old chains are folds, and hold the cells of the rows that have an origin.
pub record IsRefold {F State Cell Items Work : Type 0} (steps : Steps State Cell Items)
    (refold : Refold F State Cell Items Work) : Type 0 where
  pub carried : All (IsCarried refold.chains.now.items) refold.rows.now
  pub folded : All (IsFolded steps) refold.chains.now.items

-- A block lies among the rows; its chain, and the steps that this takes.
abbrev pub LiesInRefold : {F State Cell Items Work : Type 0} → Refold F State Cell Items Work → Block → Type 0
LiesInRefold refold block = LiesWithin (length refold.rows.now) block

abbrev pub IsRefoldChain : {F State Cell Items Work : Type 0} → Steps State Cell Items → Refold F State Cell Items Work
    → ChainView State Cell Items → Block → Type 0
IsRefoldChain steps refold chain block = IsChain steps refold.opening.now refold.rows.now chain block

abbrev pub refold_steps : {F State Cell Items Work : Type 0} → Steps State Cell Items → Refold F State Cell Items Work → Block → ℕ
refold_steps steps refold block = steps_taken steps refold.opening.now refold.chains.now.items refold.rows.now block

-- The steps that the chains of all tunes among the rows take.
abbrev pub all_refold_steps : {F State Cell Items Work : Type 0} → Steps State Cell Items → Refold F State Cell Items Work → ℕ
all_refold_steps steps refold = sum_by (refold_steps steps refold) (tunes_among refold.rows.now)
