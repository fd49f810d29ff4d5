-- Cells of lines, and what a fold gives along them.
use Rattle.std.specs.Prelude.{ℕ, ◌+◌, List, [], ◌∷◌, ◌++◌, map}
use Rattle.abc_lines.specs.Text.{Text}

-- A value in a line, with the line's number, counted from 1.
pub record Placed (A : Type 0) : Type 0 where
  pub line : ℕ
  pub here : A

abbrev pub placed_at : {A : Type 0} → ℕ → A → Placed A
placed_at line here = record { line = line; here = here }

-- The values, without the numbers of their lines.
abbrev pub placed_values : {A : Type 0} → List (Placed A) → List A
placed_values placed = map (λ one. one.here) placed

-- The cells of lines, the first of which has this number.
abbrev pub cells_from : {Cell : Type 0} → (List ℕ → List Cell) → ℕ → Text → List (Placed Cell)
cells_from cells number [] = []
cells_from cells number (line ∷ lines) = map (placed_at number) (cells line) ++ cells_from cells (number + 1) lines

-- What a fold gives along cells, the first of which it enters in this state.
abbrev pub items_along : {State Cell Items : Type 0} → (State → Cell → State) → (State → Cell → Items) → State → List (Placed Cell)
    → List (Placed Items)
items_along next gives state [] = []
items_along next gives state (cell ∷ cells) =
    placed_at cell.line (gives state cell.here) ∷ items_along next gives (next state cell.here) cells

-- The state after cells, the first of which a fold enters in this state.
abbrev pub state_along : {State Cell : Type 0} → (State → Cell → State) → State → List (Placed Cell) → State
state_along next state [] = state
state_along next state (cell ∷ cells) = state_along next (next state cell.here) cells
