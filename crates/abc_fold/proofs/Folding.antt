-- A chain in the making: what is made so far, and what the rest makes.
use Rattle.std.proofs.Common.{◌≡◌, ℕ, ◌+◌, ◌<◌, ◌≤◌, List, [], ◌∷◌, ◌++◌, length, drop, get_or, refl, sym, ◌∙◌, ap, subst, arith, append_assoc, length-append, add-one}
use Rattle.std.proofs.Math.Seq.{drop-cons}
use Rattle.std.proofs.lemmas.List.{append-nil, drop_all}
use Rattle.abc_fold.specs.Work.{Counters, IsRaisedUpTo, raised}
use Rattle.abc_fold.proofs.Raised.{raised-raised, raised-least}
use Rattle.abc_fold.specs.declared.piece.Piece.{Piece}
use Rattle.abc_fold.specs.Chain.{Folds}
use Rattle.abc_fold.specs.Steps.{Steps, IsAlike, AreAlike, IsResumable, states_from, items_from}
use Rattle.abc_fold.specs.Piece.{cell_of, cells_of, steps_at, steps_needed}
use Rattle.abc_fold.proofs.Alike.{reflexive, alike_states, equal_items, equal_steps, other_tail}

-- Counters from which k more steps come to no more than `most` steps from the first ones.
pub record IsWithin (before now : Counters) (k most : ℕ) : Type 0 where
  pub scanned : now.scanned ≡ before.scanned
  pub built : now.built ≡ before.built
  pub least : before.folded ≤ now.folded
  pub bound : raised now.folded k ≤ raised before.folded most

-- What is made so far with what a fold makes of the rest, from the own state, is what a fold makes of all.
pub record IsAhead {F State Cell Items Work : Type 0} (steps : Steps State Cell Items) (opening : State) (pieces : List (Piece F State Cell Items Work)) (state : State) (rest : List
    (Piece F State Cell Items Work)) (entries : List State) (cells : List Cell) (items : List Items) : Type 0 where
  pub all_cells : cells ++ cells_of rest ≡ cells_of pieces
  pub all_items : items ++ items_from steps state (cells_of rest) ≡ items_from steps opening (cells_of pieces)
  pub all_states : AreAlike steps (entries ++ states_from steps state (cells_of rest)) (states_from steps opening (cells_of pieces))
  pub entered : length entries ≡ length cells
  pub given : length items ≡ length cells

raised_more : (count more k : ℕ) → count ≤ more → raised count k ≤ raised more k
unfolding raised
raised_more count more k h = omega arith

-- At the start nothing is counted.
pub within_start : (now : Counters) (k : ℕ) → IsWithin now now k k
within_start now k = record { scanned = refl; built = refl; least = omega arith; bound = omega arith }

-- Counters that are within bounds are raised no further.
pub within_raised : (before now : Counters) (k most : ℕ) → IsWithin before now k most → IsRaisedUpTo most before now
within_raised before now k most within = record {
  scanned = within.scanned;
  built = within.built;
  least = within.least;
  most = let least = raised-least now.folded k in omega (arith, within.bound);
}

-- Some of the steps that were to come have been counted.
pub within_more : (before now later : Counters) (j k most : ℕ) → IsWithin before now (j + k) most → IsRaisedUpTo j now later → IsWithin before later k most
within_more before now later j k most within raise = record {
  scanned = raise.scanned ∙ within.scanned;
  built = raise.built ∙ within.built;
  least = omega (arith, raise.least, within.least);
  bound =
      let step = raised_more later.folded (raised now.folded j) k raise.most in
      let sum = raised-raised now.folded j k in
      omega (arith, step, sum, within.bound);
}

module _ {F State Cell Items Work : Type 0} (steps : Steps State Cell Items) (opening : State) (pieces : List (Piece F State Cell Items Work)) where
  -- Before the first piece.
  pub ahead_start : IsResumable steps → (state : State) → state ≡ opening → IsAhead steps opening pieces state pieces [] [] []
  ahead_start laws state is = record {
    all_cells = refl;
    all_items = rw is refl;
    all_states = rw is (reflexive steps laws (states_from steps opening (cells_of pieces)));
    entered = refl;
    given = refl;
  }

  -- After one more piece.
  pub ahead_step : IsResumable steps → (state left : State) (piece : Piece F State Cell Items Work) (rest : List (Piece F State Cell Items Work)) (entries : List State) (cells : List Cell) (items :
      List Items) (cell : Cell) (given : Items)
      → IsAhead steps opening pieces state (piece ∷ rest) entries cells items
      → IsAlike steps left (steps.next state (cell_of piece)) → cell ≡ cell_of piece → given ≡ steps.gives state (cell_of piece)
      → IsAhead steps opening pieces left rest (entries ++ state ∷ []) (cells ++ cell ∷ []) (items ++ given ∷ [])
  ahead_step laws state left piece rest entries cells items cell given ahead alike own_cell own_items = record {
    all_cells = rw own_cell (append_assoc cells (cell_of piece ∷ []) (cells_of rest) ∙ ahead.all_cells);
    all_items =
        let same = equal_items steps laws left (steps.next state (cell_of piece)) (cells_of rest) alike in
        rw (own_items, same) (append_assoc items (steps.gives state (cell_of piece) ∷ []) (items_from steps (steps.next state (cell_of piece)) (cells_of rest)) ∙ ahead.all_items);
    all_states =
        let same = alike_states steps laws left (steps.next state (cell_of piece)) (cells_of rest) alike in
        rw (append_assoc entries (state ∷ []) (states_from steps left (cells_of rest)))
        (other_tail steps laws entries (state ∷ states_from steps left (cells_of rest)) (state ∷ states_from steps (steps.next state (cell_of piece)) (cells_of rest))
        (states_from steps opening (cells_of pieces)) ahead.all_states (laws.reflexive state, same));
    entered = grind (arith, length-append, ahead.entered);
    given = grind (arith, length-append, ahead.given);
  }

  -- After the last piece.
  pub ahead_done : (i : ℕ) (state : State) (entries : List State) (cells : List Cell) (items : List Items) → length pieces ≤ i
      → IsAhead steps opening pieces state (drop i pieces) entries cells items
      → Folds steps opening (record { entries = entries ++ state ∷ []; cells = cells; items = items })
  ahead_done i state entries cells items past at =
      let ahead : IsAhead steps opening pieces state [] entries cells items =
      subst (λ rest. IsAhead steps opening pieces state rest entries cells items) (drop_all i pieces past) at in
      let all : cells ≡ cells_of pieces = sym (append-nil cells) ∙ ahead.all_cells in
      record {
        items = rw all (sym (append-nil items) ∙ ahead.all_items);
        entries = rw all ahead.all_states;
      }

  -- The cells after the last piece.
  pub cells_done : (i : ℕ) (state : State) (entries : List State) (cells : List Cell) (items : List Items) → length pieces ≤ i
      → IsAhead steps opening pieces state (drop i pieces) entries cells items → cells ≡ cells_of pieces
  cells_done i state entries cells items past ahead =
      sym (append-nil cells) ∙ subst (λ rest. cells ++ cells_of rest ≡ cells_of pieces) (drop_all i pieces past) ahead.all_cells

  rest_at : (i : ℕ) (piece : Piece F State Cell Items Work) → piece ≡ get_or pieces i piece → i < length pieces → drop i pieces ≡ piece ∷ drop (i + 1) pieces
  rest_at i piece is inside =
      let split = drop-cons pieces i piece inside in
      let next = ap (λ k. drop k pieces) (sym (add-one i)) in
      rw (split, ← is, next) refl

  at_piece : (i : ℕ) (state : State) (piece : Piece F State Cell Items Work) (before now : Counters) (most : ℕ)
      → IsWithin before now (steps_needed steps state (drop i pieces)) most
      → piece ≡ get_or pieces i piece → i < length pieces
      → IsWithin before now (steps_at steps state piece + steps_needed steps (steps.next state (cell_of piece)) (drop (i + 1) pieces)) most
  at_piece i state piece before now most within is inside =
      subst (λ rest. IsWithin before now (steps_needed steps state rest) most) (rest_at i piece is inside) within

  -- After the piece of an iteration.
  pub ahead_next : IsResumable steps
      → (i : ℕ) (state left : State) (piece : Piece F State Cell Items Work) (entries : List State) (cells : List Cell) (items : List Items) (cell : Cell) (given : Items)
      → IsAhead steps opening pieces state (drop i pieces) entries cells items
      → piece ≡ get_or pieces i piece → i < length pieces
      → IsAlike steps left (steps.next state (cell_of piece)) → cell ≡ cell_of piece → given ≡ steps.gives state (cell_of piece)
      → IsAhead steps opening pieces left (drop (i + 1) pieces) (entries ++ state ∷ []) (cells ++ cell ∷ []) (items ++ given ∷ [])
  ahead_next laws i state left piece entries cells items cell given ahead is inside alike own_cell own_items =
      ahead_step laws state left piece (drop (i + 1) pieces) entries cells items cell given (subst (λ rest. IsAhead steps opening pieces state rest entries cells items) (rest_at i piece is inside)
      ahead) alike own_cell own_items

  -- The counters after the piece of an iteration.
  pub within_next : IsResumable steps → (i : ℕ) (state left : State) (piece : Piece F State Cell Items Work) (before now later : Counters) (most : ℕ)
      → IsWithin before now (steps_needed steps state (drop i pieces)) most
      → piece ≡ get_or pieces i piece → i < length pieces
      → IsAlike steps left (steps.next state (cell_of piece))
      → IsRaisedUpTo (steps_at steps state piece) now later
      → IsWithin before later (steps_needed steps left (drop (i + 1) pieces)) most
  within_next laws i state left piece before now later most within is inside alike raise =
      let same = equal_steps steps laws left (steps.next state (cell_of piece)) (drop (i + 1) pieces) alike in
      rw same (within_more before now later (steps_at steps state piece) (steps_needed steps (steps.next state (cell_of piece)) (drop (i + 1) pieces)) most
      (at_piece i state piece before now most within is inside) raise)

  -- The counters if an iteration ends early.
  pub within_exit : (i : ℕ) (state : State) (piece : Piece F State Cell Items Work) (before now later : Counters) (most : ℕ)
      → IsWithin before now (steps_needed steps state (drop i pieces)) most
      → piece ≡ get_or pieces i piece → i < length pieces
      → IsRaisedUpTo (steps_at steps state piece) now later
      → IsRaisedUpTo most before later
  within_exit i state piece before now later most within is inside raise =
      let rest = steps_needed steps (steps.next state (cell_of piece)) (drop (i + 1) pieces) in
      within_raised before later rest most (within_more before now later (steps_at steps state piece) rest most (at_piece i state piece before now most within is inside) raise)
