-- The chains of a text as those of its file header and its tunes, and how many cells its lines have.
use Rattle.std.proofs.Common.{◌≡◌, ℕ, ◌≤◌, List, [], ◌∷◌, length, drop, map, Some, slice_get, ap, ◌∙◌, refl, subst, arith}
use Rattle.std.specs.List.{AllZip}
use Rattle.abc_book.specs.declared.block.Block.{Block}
use Rattle.abc_live_text.specs.Chains.{AreChains, IsHeaderChainOf}
use Rattle.abc_live_cost.specs.OldItems.{IsChainOf}
use Rattle.abc_live_text.specs.Row.{Row, row_cells}
use Rattle.abc_live_text.specs.KeptText.{AreRows}
use Rattle.abc_fold.specs.Chain.{ChainView}
use Rattle.abc_fold.specs.Steps.{Steps}
use Rattle.abc_live_session.specs.Prepared.{count_in}
use Rattle.abc_lines.specs.Text.{Text}
use Rattle.abc_live_index.specs.Output.{counts_of, output_in}
use Rattle.abc_live_index.specs.Tunes.{OutputAgrees}
use Rattle.abc_live_index.proofs.ChainOutputs.{output_follows}
use Rattle.abc_tune_compiler.specs.Book.{blocks_in, header_in, opening_of, tunes_in}
use Rattle.abc_tune_compiler.specs.Rules.{Rules}
use Rattle.abc_tune_compiler.specs.Tune.{tune_of}

module _ {State Cell Items Defaults : Type 0} (steps : Steps State Cell Items) (rules : Rules State Cell Items Defaults) (text : Text) where
  -- there is a chain of the file header
  pub some_chain : (chains : List (ChainView State Cell Items)) → AreChains steps rules text chains → 1 ≤ length chains
  some_chain [] are = absurd are
  some_chain (chain ∷ chains) are = omega arith

  -- it is that of the file header
  pub header_chain : (chains : List (ChainView State Cell Items)) (first : ChainView State Cell Items) → AreChains steps rules text chains → slice_get chains 0 ≡ Some first
      → IsHeaderChainOf steps rules text first (header_in (blocks_in rules text))
  header_chain [] first are is = absurd are
  header_chain (chain ∷ chains) first are is = let same : chain ≡ first = cc in subst
      (λ (c : ChainView State Cell Items). IsHeaderChainOf steps rules text c (header_in (blocks_in rules text))) same are.0

  -- and the others are those of the tunes
  pub tune_chains : (chains : List (ChainView State Cell Items)) → AreChains steps rules text chains
      → AllZip (IsChainOf steps rules.cells (opening_of steps.next rules text (blocks_in rules text)) text) (drop 1 chains) (tunes_in (blocks_in rules text))
  tune_chains [] are = absurd are
  tune_chains (chain ∷ chains) are = are.1

  -- which give their tunes
  pub outputs_agree : (opening : State) (chains : List (ChainView State Cell Items)) (blocks : List Block) → AllZip (IsChainOf steps rules.cells opening text) chains blocks
      → AllZip OutputAgrees (map (output_in rules) chains) (map (tune_of steps.next steps.gives rules opening text) blocks)
  outputs_agree opening [] [] all = tt
  outputs_agree opening [] (block ∷ blocks) all = absurd all
  outputs_agree opening (chain ∷ chains) [] all = absurd all
  outputs_agree opening (chain ∷ chains) (block ∷ blocks) all =
      (output_follows steps rules opening text chain block all.0, outputs_agree opening chains blocks all.1)

module _ {Cell : Type 0} where
  map-count_in : (rows : List (Row Cell)) → map count_in rows ≡ map length (map row_cells rows)
  map-count_in [] = refl
  map-count_in (row ∷ rows) = ap (λ l. length row.cells ∷ l) (map-count_in rows)

  map-length-cells : (read : List ℕ → List Cell) (text : Text) → map length (map read text) ≡ counts_of read text
  map-length-cells read [] = refl
  map-length-cells read (line ∷ text) = ap (λ l. length (read line) ∷ l) (map-length-cells read text)

-- the rows have as many cells as the lines
pub map-count_in_rows : {State Cell Items Defaults : Type 0} (rules : Rules State Cell Items Defaults) (text : Text)
    (rows : List (Row Cell)) → AreRows rules text rows → map count_in rows ≡ counts_of rules.cells text
map-count_in_rows rules text rows are = map-count_in rows ∙ ap (map length) are.cells ∙ map-length-cells rules.cells text
