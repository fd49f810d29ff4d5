-- What follows if two states are equivalent.
use Rattle.std.proofs.Common.{◌≡◌, Bool, true, false, List, [], ◌∷◌, ◌++◌, refl, sym, ◌∙◌}
use Rattle.abc_fold.specs.declared.piece.Piece.{Piece}
use Rattle.abc_fold.specs.declared.piece.Piece.TheVariants.{New, Kept}
use Rattle.abc_fold.specs.Steps.{Steps, IsAlike, AreAlike, IsResumable, states_from, items_from}
use Rattle.abc_fold.specs.Piece.{IsStep, cell_of, is_taken, steps_at, steps_needed}

-- Two tests that imply each other are equal.
same_test : (p q : Bool) → (p ≡ true → q ≡ true) → (q ≡ true → p ≡ true) → p ≡ q
same_test true q forth back = sym (forth refl)
same_test false true forth back = back refl
same_test false false forth back = refl

-- A kept piece that no longer holds needs a step.
pub not_taken_cost : {F State Cell Items Work : Type 0} (steps : Steps State Cell Items) (state : State) (piece : Piece F State Cell Items Work) (taken : Bool)
    → taken ≡ is_taken steps state piece → taken ≡ false → steps_at steps state piece ≡ 1
not_taken_cost steps state (New cell) taken is not = refl
not_taken_cost steps state (Kept cell entered left items) taken is not = rw (sym is ∙ not) refl

module _ {State Cell Items : Type 0} (steps : Steps State Cell Items) (laws : IsResumable steps) where
  -- A state is equivalent to itself.
  pub reflexive : (states : List State) → AreAlike steps states states
  reflexive [] = tt
  reflexive (state ∷ states) = (laws.reflexive state, reflexive states)

  -- The states of folds from equivalent states are equivalent.
  pub alike_states : (a b : State) (cells : List Cell) → IsAlike steps a b → AreAlike steps (states_from steps a cells) (states_from steps b cells)
  alike_states a b [] alike = (alike, tt)
  alike_states a b (cell ∷ cells) alike = (alike, alike_states (steps.next a cell) (steps.next b cell) cells (laws.alike_states a b cell alike))

  -- Folds from equivalent states have the same items.
  pub equal_items : (a b : State) (cells : List Cell) → IsAlike steps a b → items_from steps a cells ≡ items_from steps b cells
  equal_items a b [] alike = refl
  equal_items a b (cell ∷ cells) alike =
      let first = laws.equal_items a b cell alike in
      let rest = equal_items (steps.next a cell) (steps.next b cell) cells (laws.alike_states a b cell alike) in
      rw (first, rest) refl

  -- A test for equivalence has one answer against equivalent states.
  pub equal_test : (a b c : State) → IsAlike steps a b → steps.alike c a ≡ steps.alike c b
  equal_test a b c alike =
      same_test (steps.alike c a) (steps.alike c b)
      (λ own. laws.transitive c a b own alike)
      (λ own. laws.transitive c b a own (laws.symmetric a b alike))

  -- A piece needs as many steps from equivalent states.
  pub equal_cost : {F Work : Type 0} (a b : State) (piece : Piece F State Cell Items Work) → IsAlike steps a b → steps_at steps a piece ≡ steps_at steps b piece
  equal_cost a b (New cell) alike = refl
  equal_cost a b (Kept cell entered left items) alike = rw (equal_test a b entered alike) refl

  -- Folds from equivalent states need as many steps.
  pub equal_steps : {F Work : Type 0} (a b : State) (pieces : List (Piece F State Cell Items Work)) → IsAlike steps a b → steps_needed steps a pieces ≡ steps_needed steps b pieces
  equal_steps a b [] alike = refl
  equal_steps a b (piece ∷ pieces) alike =
      let first = equal_cost a b piece alike in
      let rest = equal_steps (steps.next a (cell_of piece)) (steps.next b (cell_of piece)) pieces (laws.alike_states a b (cell_of piece) alike) in
      rw (first, rest) refl

  transitive : (a b c : List State) → AreAlike steps a b → AreAlike steps b c → AreAlike steps a c
  transitive [] [] [] ab bc = tt
  transitive [] [] (z ∷ zs) ab bc = bc
  transitive [] (y ∷ ys) c ab bc = absurd ab
  transitive (x ∷ xs) [] c ab bc = absurd ab
  transitive (x ∷ xs) (y ∷ ys) [] ab bc = bc
  transitive (x ∷ xs) (y ∷ ys) (z ∷ zs) ab bc = (laws.transitive x y z ab.0 bc.0, transitive xs ys zs ab.1 bc.1)

  -- The states after the same ones may be replaced by equivalent ones.
  pub other_tail : (front tail old whole : List State) → AreAlike steps (front ++ old) whole → AreAlike steps tail old → AreAlike steps (front ++ tail) whole
  other_tail [] tail old whole all same = transitive tail old whole same all
  other_tail (x ∷ front) tail old [] all same = all
  other_tail (x ∷ front) tail old (y ∷ whole) all same = (all.0, other_tail front tail old whole all.1 same)

  -- The kept state after a cell, if the cell is entered in a state equivalent to the kept one.
  pub taken_state : (state entered left own : State) (cell : Cell) (given : Items) → IsAlike steps entered state → IsStep steps cell entered left given → own ≡ left
      → IsAlike steps own (steps.next state cell)
  taken_state state entered left own cell given same kept is =
      rw is (laws.transitive left (steps.next entered cell) (steps.next state cell) kept.after_alike (laws.alike_states entered state cell same))

  -- The kept items of a cell are those that it gives there.
  pub taken_items : (state entered left : State) (cell : Cell) (given out : Items) → IsAlike steps entered state → IsStep steps cell entered left given → out ≡ given → out ≡ steps.gives state cell
  taken_items state entered left cell given out same kept is =
      is ∙ kept.given_equal ∙ laws.equal_items entered state cell same
