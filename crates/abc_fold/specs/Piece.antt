-- The pieces that a chain is made from. Not in ABC 2.1.
use Rattle.std.specs.Prelude.{◌≡◌, ℕ, ◌+◌, Bool, false, if◌then◌else◌, List, [], ◌∷◌, map}
use Rattle.abc_fold.specs.declared.piece.Piece.{Piece}
use Rattle.abc_fold.specs.declared.piece.Piece.TheVariants.{New, Kept}
use Rattle.abc_fold.specs.Steps.{Steps, IsAlike}

-- The cell of a piece, whether it is new or kept.
abbrev pub cell_of : {F State Cell Items Work : Type 0} → Piece F State Cell Items Work → Cell
cell_of (New cell) = cell
cell_of (Kept cell entered left items) = cell

-- The cells of pieces.
abbrev pub cells_of : {F State Cell Items Work : Type 0} → List (Piece F State Cell Items Work) → List Cell
cells_of pieces = map cell_of pieces

-- A state equivalent to the one after the cell, and the items that the cell gives, if it is entered in a state.
pub record IsStep {State Cell Items : Type 0} (steps : Steps State Cell Items) (cell : Cell)
    (entered following : State) (given : Items) : Type 0 where
  pub after_alike : IsAlike steps following (steps.next entered cell)
  pub given_equal : given ≡ steps.gives entered cell

-- The states and items of a kept piece are those of the fold for its cell, from the state in which it was entered.
abbrev pub IsKept : {F State Cell Items Work : Type 0} → Steps State Cell Items → Piece F State Cell Items Work → Type 0
IsKept steps (New cell) = Unit {0}
IsKept steps (Kept cell entered left items) = IsStep steps cell entered left items

-- Whether what was kept of a piece may be taken if the fold enters it in a state: whether it was kept from an equivalent
-- state.
abbrev pub is_taken : {F State Cell Items Work : Type 0} → Steps State Cell Items → State → Piece F State Cell Items Work → Bool
is_taken steps state (New cell) = false
is_taken steps state (Kept cell entered left items) = steps.alike entered state

-- The steps of a piece if the fold enters it in a state: one, or none if it was kept from an equivalent state.
abbrev pub steps_at : {F State Cell Items Work : Type 0} → Steps State Cell Items → State → Piece F State Cell Items Work → ℕ
steps_at steps state (New cell) = 1
steps_at steps state (Kept cell entered left items) = if steps.alike entered state then 0 else 1

-- How many steps pieces need: one for each new one, and for each kept one whose entry state is not equivalent to the
-- fold's state there.
abbrev pub steps_needed : {F State Cell Items Work : Type 0} → Steps State Cell Items → State → List (Piece F State Cell Items Work)
    → ℕ
steps_needed steps state [] = 0
steps_needed steps state (piece ∷ pieces) =
    steps_at steps state piece + steps_needed steps (steps.next state (cell_of piece)) pieces
