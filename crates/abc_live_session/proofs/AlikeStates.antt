-- Tunes that begin in equivalent states give the same; chains that stay show that they do.
use Rattle.std.proofs.Common.{◌≡◌, ◌⊎◌, List, [], ◌∷◌, refl, ap, inl, inr}
use Rattle.std.specs.List.{AllZip}
use Rattle.abc_book.specs.declared.block.Block.{Block}
use Rattle.abc_live_cost.specs.OldItems.{IsChainOf}
use Rattle.abc_fold.specs.Chain.{ChainView}
use Rattle.abc_fold.specs.Steps.{Steps, AreAlike, IsAlike, IsResumable, states_from}
use Rattle.abc_lines.specs.Text.{Text}
use Rattle.abc_tune_compiler.specs.Placed.{Placed, items_along, placed_at}
use Rattle.abc_tune_compiler.specs.Rules.{Rules}
use Rattle.abc_tune_compiler.specs.Tune.{cells_in, tune_from, tune_of}
use Rattle.std.specs.Prelude.{ℕ, ◌+◌, map}

module _ {State Cell Items : Type 0} (steps : Steps State Cell Items) (laws : IsResumable steps) where
  items_alike : (a b : State) (cells : List (Placed Cell)) → IsAlike steps a b → items_along steps.next steps.gives a cells ≡ items_along steps.next steps.gives b cells
  items_alike a b [] alike = refl
  items_alike a b (cell ∷ cells) alike =
      let here = laws.equal_items a b cell.here alike in
      let more = items_alike (steps.next a cell.here) (steps.next b cell.here) cells (laws.alike_states a b cell.here alike) in
      λ i. placed_at cell.line (here i) ∷ more i

  tune_alike : {Defaults : Type 0} (rules : Rules State Cell Items Defaults) (a b : State) (text : Text) (block : Block)
      → IsAlike steps a b → tune_of steps.next steps.gives rules a text block ≡ tune_of steps.next steps.gives rules b text block
  unfolding tune_of
  tune_alike rules a b text block alike = ap (tune_from rules (block.from + 1)) (items_alike a b (cells_in rules text block) alike)

  pub tunes_alike : {Defaults : Type 0} (rules : Rules State Cell Items Defaults) (a b : State) (text : Text) (blocks : List Block)
      → IsAlike steps a b → map (tune_of steps.next steps.gives rules a text) blocks ≡ map (tune_of steps.next steps.gives rules b text) blocks
  tunes_alike rules a b text [] alike = refl
  tunes_alike rules a b text (block ∷ blocks) alike = λ i. tune_alike rules a b text block alike i ∷ tunes_alike rules a b text blocks alike i

  begun_alike : (entries : List State) (a b : State) (some others : List Cell) → AreAlike steps entries (states_from steps a some)
      → AreAlike steps entries (states_from steps b others) → IsAlike steps a b
  begun_alike [] a b [] others first second = absurd first
  begun_alike [] a b (cell ∷ some) others first second = absurd first
  begun_alike (entry ∷ entries) a b [] [] first second = laws.transitive a entry b (laws.symmetric entry a first.0) second.0
  begun_alike (entry ∷ entries) a b [] (cell ∷ others) first second = laws.transitive a entry b (laws.symmetric entry a first.0) second.0
  begun_alike (entry ∷ entries) a b (cell ∷ some) [] first second = laws.transitive a entry b (laws.symmetric entry a first.0) second.0
  begun_alike (entry ∷ entries) a b (cell ∷ some) (other ∷ others) first second = laws.transitive a entry b (laws.symmetric entry a first.0) second.0

  -- If a chain is the fold from two states, these are equivalent.
  pub chains_alike : (read : List ℕ → List Cell) (a b : State) (text new : Text) (chains : List (ChainView State Cell Items)) (blocks others : List Block)
      → AllZip (IsChainOf steps read a text) chains blocks → AllZip (IsChainOf steps read b new) chains others → (blocks ≡ []) ⊎ IsAlike steps a b
  chains_alike read a b text new [] [] others first second = inl refl
  chains_alike read a b text new [] (block ∷ blocks) others first second = absurd first
  chains_alike read a b text new (chain ∷ chains) [] others first second = absurd first
  chains_alike read a b text new (chain ∷ chains) (block ∷ blocks) [] first second = absurd second
  chains_alike read a b text new (chain ∷ chains) (block ∷ blocks) (other ∷ others) first second =
      inr (begun_alike chain.entries a b chain.cells chain.cells first.0.folds.entries second.0.folds.entries)
