-- What contracts see of a chain, and of one that has been prepared. Not in ABC 2.1.
use Rattle.std.specs.Prelude.{◌≡◌, ℕ, ◌+◌, ◌-◌, List, [], length, Some, slice_get}
use Rattle.abc_fold.specs.declared.piece.Piece.{Piece}
use Rattle.abc_fold.specs.declared.piece.Piece.TheVariants.{New, Kept}
use Rattle.abc_fold.specs.Steps.{Steps, AreAlike, states_from, items_from}

-- The states in which cells are entered and the last is left, the cells, and what they give.
pub record ChainView (State Cell Items : Type 0) : Type 0 where
  pub entries : List State
  pub cells : List Cell
  pub items : List Items

-- No cells, and no state.
abbrev pub no_cells : {State Cell Items : Type 0} → ChainView State Cell Items
no_cells = record { entries = []; cells = []; items = [] }

-- A chain, and the one that is to take its place.
pub record ChainPatchView (State Cell Items : Type 0) : Type 0 where
  pub on : ChainView State Cell Items
  pub after : ChainView State Cell Items

-- Each cell has its items, and a state before it and after it; without cells there may be no state.
pub record HasShape {State Cell Items : Type 0} (entries : List State) (cells : List Cell) (items : List Items) : Type 0 where
  pub states : length entries - 1 ≡ length cells
  pub given : length items ≡ length cells

-- A chain is a fold of its cells from an opening: it has the fold's items, and states equivalent to the fold's.
pub record Folds {State Cell Items : Type 0} (steps : Steps State Cell Items) (opening : State)
    (chain : ChainView State Cell Items) : Type 0 where
  pub items : chain.items ≡ items_from steps opening chain.cells
  pub entries : AreAlike steps chain.entries (states_from steps opening chain.cells)

-- What a chain keeps at a place.
pub record IsPlace {State Cell Items : Type 0} (chain : ChainView State Cell Items) (i : ℕ) (cell : Cell)
    (entered left : State) (items : Items) : Type 0 where
  pub own_cell : slice_get chain.cells i ≡ Some cell
  pub own_entry : slice_get chain.entries i ≡ Some entered
  pub next_entry : slice_get chain.entries (i + 1) ≡ Some left
  pub own_items : slice_get chain.items i ≡ Some items

-- A piece is what a chain keeps at a place.
abbrev pub IsKeptAt : {F State Cell Items Work : Type 0} → ChainView State Cell Items → ℕ → Piece F State Cell Items Work → Type 0
IsKeptAt chain i (New cell) = ⊥
IsKeptAt chain i (Kept cell entered left items) = IsPlace chain i cell entered left items
