-- In which state each cell of a text is entered. Not in ABC 2.1.
use Rattle.std.specs.Prelude.{ℕ, ◌+◌, ◌==◌, ◌&&◌, Bool, List, [], ◌∷◌, ◌++◌, Option}
use Rattle.std.specs.List.{flat_map, find}
use Rattle.std.specs.Option.{option_map}
use Rattle.abc_lines.specs.Text.{Text}
use Rattle.abc_tune_compiler.specs.Tune.{lines_in}
use Rattle.abc_live_cost.specs.Layout.{FoldedBlock, Layout, chains_of}
use Rattle.abc_fold.specs.Steps.{Steps, state_after}

-- A cell: its line and its place in the line, both counted from 0, and the state in which it is entered.
pub record Spot (State : Type 0) : Type 0 where
  pub line : ℕ
  pub nth : ℕ
  pub entered : State

abbrev pub spot_at : {State : Type 0} → ℕ → ℕ → State → Spot State
spot_at line nth entered = record { line = line; nth = nth; entered = entered }

-- The cells of a line from the nth on, the first of which is entered in this state.
abbrev pub spots_in_line : {State Cell : Type 0} → (State → Cell → State) → ℕ → ℕ → State → List Cell → List (Spot State)
spots_in_line next line nth state [] = []
spots_in_line next line nth state (cell ∷ cells) = spot_at line nth state
    ∷ spots_in_line next line (nth + 1) (next state cell) cells

-- The cells of lines, of which the first has this number; each line is read into its cells.
abbrev pub spots_along : {State Cell Items : Type 0} → Steps State Cell Items → (List ℕ → List Cell) → ℕ → State → Text
    → List (Spot State)
spots_along steps read line state [] = []
spots_along steps read line state (bytes ∷ lines) =
    spots_in_line steps.next line 0 state (read bytes) ++ spots_along steps read (line + 1)
    (state_after steps.next state (read bytes)) lines

-- The cells of a chain.
abbrev pub spots_of : {State Cell Items : Type 0} → Steps State Cell Items → (List ℕ → List Cell) → Text → FoldedBlock State
    → List (Spot State)
spots_of steps read text chain = spots_along steps read chain.block.from chain.opening (lines_in text chain.block)

-- The cells of a text: those of its file header and those of its tunes. Free text has none.
abbrev pub spots_in : {State Cell Items : Type 0} → Steps State Cell Items → (List ℕ → List Cell) → Layout State → List (Spot State)
spots_in steps read layout = flat_map (spots_of steps read layout.text) (chains_of layout)

abbrev pub is_spot_at : {State : Type 0} → ℕ → ℕ → Spot State → Bool
is_spot_at line nth spot = (spot.line == line) && (spot.nth == nth)

-- The state in which the nth cell of a line is entered, if the file header or a tune has such a cell.
abbrev pub entry_at : {State Cell Items : Type 0} → Steps State Cell Items → (List ℕ → List Cell) → Layout State → ℕ → ℕ
    → Option State
entry_at steps read layout line nth = option_map (λ spot. spot.entered) (find (is_spot_at line nth) (spots_in steps read layout))
