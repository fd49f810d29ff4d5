-- The states in which chains begin.
use Rattle.std.proofs.Common.{◌≡◌, ℕ, List, [], ◌∷◌, map, Option, Some, None, slice_get, length, refl, sym, ◌∙◌, ap, subst}
use Rattle.std.specs.List.{AllZip}
use Rattle.abc_book.specs.declared.block.Block.{Block}
use Rattle.abc_tune_compiler.specs.Lawful.{AreLawful}
use Rattle.abc_fold.specs.Chain.{ChainView, Folds}
use Rattle.abc_fold.specs.Steps.{Steps, AreAlike, IsAlike, IsResumable, states_from}
use Rattle.abc_fold.proofs.Alike.{alike_states, equal_items, other_tail}
use Rattle.abc_lines.specs.Text.{Text}
use Rattle.abc_live_cost.specs.Layout.{chain_at}
use Rattle.abc_live_cost.proofs.SameCells.{cells_are_things}
use Rattle.abc_tune_compiler.specs.Book.{state_after_header}
use Rattle.abc_tune_compiler.specs.Placed.{Placed, state_along, placed_values}
use Rattle.abc_tune_compiler.specs.Rules.{Rules}
use Rattle.abc_tune_compiler.specs.Tune.{cells_in as placed_in}
use Rattle.abc_live_text.specs.Pieces.{IsChain, cells_in}
use Rattle.abc_live_text.specs.Chains.{IsHeaderChain, IsHeaderChainOf, state_after_chain}
use Rattle.abc_live_cost.specs.OldItems.{IsChainOf}
use Rattle.abc_live_text.specs.Row.{CarriedRow}
use Rattle.abc_live_text.proofs.FreshSteps.{block_cells}

-- A chain is the fold from every state equivalent to its opening.
pub folds_alike : {State Cell Items : Type 0} (steps : Steps State Cell Items) (a b : State) (chain : ChainView State Cell Items)
    → IsResumable steps → IsAlike steps a b → Folds steps a chain → Folds steps b chain
folds_alike steps a b chain laws alike folds = record {
  items = folds.items ∙ equal_items steps laws a b chain.cells alike;
  entries = other_tail steps laws [] chain.entries (states_from steps a chain.cells) (states_from steps b chain.cells) (alike_states steps laws a b chain.cells alike) folds.entries;
}

-- The state after the last cell, up to equivalent states.
last_state : {State Cell Items : Type 0} (steps : Steps State Cell Items) (placed : List (Placed Cell)) (entries : List State) (state : State)
    → AreAlike steps entries (states_from steps state (placed_values placed))
    → (x : State) × (slice_get entries (length (placed_values placed)) ≡ Some x) × IsAlike steps x (state_along steps.next state placed)
last_state steps [] [] state alike = absurd alike
last_state steps [] (entry ∷ entries) state alike = (entry, refl, alike.0)
last_state steps (cell ∷ placed) [] state alike = absurd alike
last_state steps (cell ∷ placed) (entry ∷ entries) state alike = last_state steps placed entries (steps.next state cell.here) alike.1

-- The tunes begin in a state equivalent to the definition's.
pub opening_alike : {State Cell Items Defaults : Type 0} (steps : Steps State Cell Items) (rules : Rules State Cell Items Defaults)
    (text : Text) (chain : ChainView State Cell Items) (header : Option Block)
    → IsResumable steps → AreLawful steps rules → IsHeaderChainOf steps rules text chain header
    → IsAlike steps (rules.tune (state_after_chain header chain)) (rules.tune (state_after_header steps.next rules text header))
opening_alike steps rules text chain None laws lawful own = laws.reflexive (rules.tune None)
opening_alike {State = State} {Cell = Cell} steps rules text chain (Some block) laws lawful own =
    let placed = placed_in rules text block in
    let same : chain.cells ≡ placed_values placed = own.cells ∙ sym (cells_are_things rules.cells text (chain_at 0 rules.header block)) in
    let last = last_state steps placed chain.entries rules.header (subst (λ cells. AreAlike steps chain.entries (states_from steps rules.header cells)) same own.folds.entries) in
    let following = state_along steps.next rules.header placed in
    let here : slice_get chain.entries (length chain.cells) ≡ Some last.0 = ap (λ (cells : List Cell). slice_get chain.entries (length cells)) same ∙ last.1 in
    subst (λ (after : Option State). IsAlike steps (rules.tune after) (rules.tune (Some following))) (sym here)
    (lawful.alike_openings last.0 following (lawful.equal_defaults last.0 following last.2))

chain_made : {State Cell Items : Type 0} (steps : Steps State Cell Items) (read : List ℕ → List Cell) (own opening : State)
    (text : Text) (rows : List (CarriedRow Cell)) (chain : ChainView State Cell Items) (block : Block)
    → IsResumable steps → IsAlike steps own opening → map cells_in rows ≡ map read text → IsChain steps own rows chain block → IsChainOf steps read opening text chain block
chain_made steps read own opening text rows chain block laws alike cells made = record {
  folds = folds_alike steps own opening chain laws alike made.folds;
  cells = made.cells ∙ block_cells read rows text block cells;
}

pub tunes_made : {State Cell Items : Type 0} (steps : Steps State Cell Items) (read : List ℕ → List Cell) (own opening : State)
    (text : Text) (rows : List (CarriedRow Cell)) (chains : List (ChainView State Cell Items)) (blocks : List Block)
    → IsResumable steps → IsAlike steps own opening → map cells_in rows ≡ map read text → AllZip (IsChain steps own rows) chains blocks → AllZip (IsChainOf steps read opening text) chains blocks
tunes_made steps read own opening text rows [] [] laws alike cells made = tt
tunes_made steps read own opening text rows [] (block ∷ blocks) laws alike cells made = absurd made
tunes_made steps read own opening text rows (chain ∷ chains) [] laws alike cells made = absurd made
tunes_made steps read own opening text rows (chain ∷ chains) (block ∷ blocks) laws alike cells made =
    (chain_made steps read own opening text rows chain block laws alike cells made.0, tunes_made steps read own opening text rows chains blocks laws alike cells made.1)

pub header_made : {State Cell Items Defaults : Type 0} (steps : Steps State Cell Items) (rules : Rules State Cell Items Defaults)
    (text : Text) (rows : List (CarriedRow Cell)) (chain : ChainView State Cell Items) (header : Option Block)
    → IsResumable steps → map cells_in rows ≡ map rules.cells text → IsHeaderChain steps rules.header rows chain header → IsHeaderChainOf steps rules text chain header
header_made steps rules text rows chain None laws cells made = made
header_made steps rules text rows chain (Some block) laws cells made = chain_made steps rules.cells rules.header rules.header text rows chain block laws (laws.reflexive rules.header) cells made
