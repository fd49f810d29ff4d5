-- What a chain keeps at a place is a step.
use Rattle.std.proofs.Common.{◌≡◌, ℕ, zero, suc, ◌+◌, ◌-◌, ◌<◌, ◌≤◌, List, [], ◌∷◌, ◌++◌, Some, None, Result, Ok, Err, IfOk, slice_get, length, take, drop, get_or, sym, ◌∙◌, ap, subst, arith, add-one}
use Rattle.std.proofs.Common.{length-drop}
use Rattle.std.proofs.lemmas.List.{take_more, get_or-drop}
use Rattle.std.proofs.lemmas.Option.{slice_get_within, get_or_from_slice_get}
use Rattle.abc_fold.specs.declared.piece.Piece.{Piece}
use Rattle.abc_fold.specs.declared.piece.Piece.TheVariants.{New, Kept}
use Rattle.abc_fold.specs.Chain.{ChainView, Folds, IsKeptAt}
use Rattle.abc_fold.specs.Steps.{Steps, IsAlike, AreAlike, IsResumable, states_from, items_from}
use Rattle.abc_fold.specs.Piece.{IsKept, IsStep, cell_of}

-- The values in two equal options are equal.
pub some_same : {X : Type 0} (x y : X) → Some x ≡ Some y → x ≡ y
some_same x y is = search is

none_some : {X : Type 0} (x : X) → None ≡ Some x → ⊥
none_some x is = subst (λ o. elim o as (λ _. Type 0) [ None ↦ Unit {0} | Some y ↦ ⊥ ]) is tt

module _ {State Cell Items : Type 0} (steps : Steps State Cell Items) (laws : IsResumable steps) where
  first_state : (state : State) (cells : List Cell) (entries : List State) (entered : State) → AreAlike steps entries (states_from steps state cells) → slice_get entries 0 ≡ Some entered
      → IsAlike steps entered state
  first_state state cells [] entered alike is = absurd (none_some entered is)
  first_state state [] (own ∷ entries) entered alike is = subst (λ s. IsAlike steps s state) (some_same own entered is) alike.0
  first_state state (cell ∷ cells) (own ∷ entries) entered alike is = subst (λ s. IsAlike steps s state) (some_same own entered is) alike.0

  step_at : (opening : State) (cells : List Cell) (entries : List State) (i : ℕ) (cell : Cell) (entered left : State) (given : Items)
      → AreAlike steps entries (states_from steps opening cells)
      → slice_get cells i ≡ Some cell → slice_get entries i ≡ Some entered → slice_get entries (suc i) ≡ Some left
      → slice_get (items_from steps opening cells) i ≡ Some given
      → IsStep steps cell entered left given
  step_at opening [] entries i cell entered left given alike at_cell at_entry at_next at_items = absurd (none_some cell at_cell)
  step_at opening (own ∷ cells) [] i cell entered left given alike at_cell at_entry at_next at_items = absurd (none_some entered at_entry)
  step_at opening (own ∷ cells) (state ∷ entries) zero cell entered left given alike at_cell at_entry at_next at_items =
      let same_cell = some_same own cell at_cell in
      let same_entry = some_same state entered at_entry in
      let own_alike = subst (λ s. IsAlike steps s opening) same_entry alike.0 in
      let next_alike = first_state (steps.next opening own) cells entries left alike.1 at_next in
      record {
        after_alike =
            subst (λ c. IsAlike steps left (steps.next entered c)) same_cell
            (laws.transitive left (steps.next opening own) (steps.next entered own) next_alike
            (laws.symmetric (steps.next entered own) (steps.next opening own) (laws.alike_states entered opening own own_alike)));
        given_equal =
            subst (λ c. given ≡ steps.gives entered c) same_cell
            (sym (some_same (steps.gives opening own) given at_items) ∙ sym (laws.equal_items entered opening own own_alike));
      }
  step_at opening (own ∷ cells) (state ∷ entries) (suc i) cell entered left given alike at_cell at_entry at_next at_items =
      step_at (steps.next opening own) cells entries i cell entered left given alike.1 at_cell at_entry at_next at_items

  -- A piece that a chain keeps at a place may be taken up again.
  pub kept_at : {F Work : Type 0} (opening : State) (chain : ChainView State Cell Items) (i : ℕ) (piece : Piece F State Cell Items Work)
      → Folds steps opening chain → IsKeptAt chain i piece → IsKept steps piece
  kept_at opening chain i (New cell) folds at = tt
  kept_at opening chain i (Kept cell entered left items) folds at =
      step_at opening chain.cells chain.entries i cell entered left items folds.entries at.own_cell at.own_entry
      (subst (λ k. slice_get chain.entries k ≡ Some left) (add-one i) at.next_entry)
      (subst (λ list. slice_get list i ≡ Some items) folds.items at.own_items)

  -- The same of the result of a call.
  pub kept_of : {F Work E : Type 0} (opening : State) (chain : ChainView State Cell Items) (i : ℕ) (result : Result (Piece F State Cell Items Work) E)
      → Folds steps opening chain → IfOk result (λ piece. IsKeptAt chain i piece) → IfOk result (λ piece. IsKept steps piece)
  kept_of opening chain i (Ok piece) folds at = kept_at opening chain i piece folds at
  kept_of opening chain i (Err e) folds at = tt

-- The cell of a piece that a chain keeps at a place.
pub kept_cell : {F State Cell Items Work : Type 0} (chain : ChainView State Cell Items) (i : ℕ) (piece : Piece F State Cell Items Work) → IsKeptAt chain i piece
    → slice_get chain.cells i ≡ Some (cell_of piece)
kept_cell chain i (New cell) at = absurd at
kept_cell chain i (Kept cell entered left items) at = at.own_cell

-- One more of the items from a place on.
pub one_more : {X : Type 0} (xs : List X) (from i : ℕ) (x : X) → from ≤ i → slice_get xs i ≡ Some x → take (i + 1 - from) (drop from xs) ≡ take (i - from) (drop from xs) ++ x ∷ []
one_more xs from i x order is =
    let inside = slice_get_within xs i x is in
    let at : get_or (drop from xs) (i - from) x ≡ x =
    get_or-drop from xs (i - from) x ∙ ap (λ k. get_or xs k x) (let e : from + (i - from) ≡ i = omega (arith, order) in e) ∙ get_or_from_slice_get xs i x x is in
    let count : i + 1 - from ≡ (i - from) + 1 = omega (arith, order) in
    let long : i - from < length (drop from xs) = rw (length-drop from xs) (omega (arith, order, inside)) in
    ap (λ n. take n (drop from xs)) count ∙ take_more (drop from xs) (i - from) x long ∙ ap (λ y. take (i - from) (drop from xs) ++ y ∷ []) at
