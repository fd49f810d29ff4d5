-- The rows along which code walks: for each line, for each of its cells, what it was in the old text. Not in ABC 2.1.
use Rattle.std.specs.Prelude.{ℕ, zero, suc, ◌+◌, ◌-◌, cond, List, [], ◌∷◌, ◌++◌, take, drop, map, length, slice_get, Option, Some}
use Rattle.std.specs.Prelude.{None}
use Rattle.std.specs.Option.{option_flatten, option_map}
use Rattle.abc_lines.specs.Text.{Splice, Text}
use Rattle.abc_tune_compiler.specs.Tune.{lines_in}
use Rattle.abc_live_cost.specs.FreshCells.{is_fresh_after}
use Rattle.abc_live_cost.specs.Layout.{FoldedBlock, Layout, chains_of}
use Rattle.abc_fold.specs.Steps.{Steps, state_after}

-- A cell of the old text: which cell of which chain it is, and the state in which it was entered.
pub record Past (State : Type 0) : Type 0 where
  pub source : ℕ
  pub place : ℕ
  pub entered : State

abbrev pub past_of : {State : Type 0} → ℕ → ℕ → State → Past State
past_of source place entered = record { source = source; place = place; entered = entered }

-- The pasts of the cells of a line of the chain `source`. The first cell has the place `place` in the chain.
abbrev pub pasts_in_line : {State Cell : Type 0} → (State → Cell → State) → ℕ → ℕ → State → List Cell → List (Option (Past State))
pasts_in_line next source place state [] = []
pasts_in_line next source place state (cell ∷ cells) = Some (past_of source place state)
    ∷ pasts_in_line next source (place + 1) (next state cell) cells

-- The row of a line that is new or lies in no chain; of the steps it needs the states alone.
abbrev pub no_pasts : {State Cell Items : Type 0} → Steps State Cell Items → (List ℕ → List Cell) → List ℕ
    → List (Option (Past State))
no_pasts steps read bytes = map (λ _. None) (read bytes)

-- The pasts of the cells of lines of a chain, row by row. `first` is the past of the first cell.
abbrev pub pasts_along : {State Cell Items : Type 0} → Steps State Cell Items → (List ℕ → List Cell) → Past State → Text
    → List (List (Option (Past State)))
pasts_along steps read first [] = []
pasts_along steps read first (bytes ∷ lines) =
    pasts_in_line steps.next first.source first.place first.entered (read bytes)
    ∷ pasts_along steps read (past_of first.source (first.place + length (read bytes))
    (state_after steps.next first.entered (read bytes))) lines

-- The lines from one number up to another.
abbrev pub lines_between : Text → ℕ → ℕ → Text
lines_between text from to = take (to - from) (drop from text)

-- The rows of a text from a line on, by the chains that begin there or later.
abbrev pub rows_from : {State Cell Items : Type 0} → Steps State Cell Items → (List ℕ → List Cell) → Text → ℕ
    → List (FoldedBlock State) → List (List (Option (Past State)))
rows_from steps read text at [] = map (no_pasts steps read) (drop at text)
rows_from steps read text at (chain ∷ chains) =
    map (no_pasts steps read) (lines_between text at chain.block.from)
    ++ (pasts_along steps read (past_of chain.source 0 chain.opening) (lines_in text chain.block)
    ++ rows_from steps read text chain.block.to chains)

-- The rows of the old text: each of its cells is the one that it was.
abbrev pub rows_of : {State Cell Items : Type 0} → Steps State Cell Items → (List ℕ → List Cell) → Layout State
    → List (List (Option (Past State)))
rows_of steps read layout = rows_from steps read layout.text 0 (chains_of layout)

-- The rows of the new text: they are spliced like its lines.
abbrev pub pasts : {State Cell Items : Type 0} → Steps State Cell Items → (List ℕ → List Cell) → Layout State → Splice
    → List (List (Option (Past State)))
pasts steps read old s = take s.at (rows_of steps read old)
    ++ (map (no_pasts steps read) s.lines ++ drop (s.at + s.removed) (rows_of steps read old))

-- The row of a line, empty if there is none.
abbrev pub row_at : {A : Type 0} → List (List A) → ℕ → List A
row_at [] line = []
row_at (row ∷ rows) zero = row
row_at (row ∷ rows) (suc line) = row_at rows line

-- The nth past of a line.
abbrev pub past_at : {State : Type 0} → List (List (Option (Past State))) → ℕ → ℕ → Option (Past State)
past_at rows line nth = option_flatten (slice_get (row_at rows line) nth)

abbrev pub entry_of_past : {State : Type 0} → Option (Past State) → Option State
entry_of_past past = option_map (λ was. was.entered) past

-- The head of a list and the rest; the list may be empty.
abbrev pub first_past : {A : Type 0} → List (Option A) → Option A
first_past [] = None
first_past (a ∷ others) = a

abbrev pub first_row : {A : Type 0} → List (List A) → List A
first_row [] = []
first_row (row ∷ rows) = row

abbrev pub rest : {A : Type 0} → List A → List A
rest [] = []
rest (a ∷ others) = others

-- How many of these cells are fresh, their pasts beside them.
abbrev pub fresh_cells_in_line : {State Cell Items : Type 0} → Steps State Cell Items → State → List Cell
    → List (Option (Past State)) → ℕ
fresh_cells_in_line steps state [] row = 0
fresh_cells_in_line steps state (cell ∷ cells) row =
    cond (is_fresh_after steps.alike state (entry_of_past (first_past row))) 1 0 + fresh_cells_in_line steps
    (steps.next state cell) cells (rest row)

-- How many cells of lines are fresh, the rows beside them.
abbrev pub fresh_cells_along : {State Cell Items : Type 0} → Steps State Cell Items → (List ℕ → List Cell) → State → Text
    → List (List (Option (Past State))) → ℕ
fresh_cells_along steps read state [] rows = 0
fresh_cells_along steps read state (bytes ∷ lines) rows =
    fresh_cells_in_line steps state (read bytes) (first_row rows) + fresh_cells_along steps read
    (state_after steps.next state (read bytes)) lines (rest rows)

-- How many cells of a chain are fresh, by the rows of the text.
abbrev pub fresh_cells_of : {State Cell Items : Type 0} → Steps State Cell Items → (List ℕ → List Cell) → Text
    → List (List (Option (Past State))) → FoldedBlock State → ℕ
fresh_cells_of steps read text rows chain =
    fresh_cells_along steps read chain.opening (lines_in text chain.block) (drop chain.block.from rows)
