-- The states that old chains keep for the cells of a new chain, and the steps taken along it. Not in ABC 2.1.
use Rattle.std.specs.Prelude.{ℕ, ◌+◌, cond, List, [], ◌∷◌, map, slice_get, Contains, Option, Some, None}
use Rattle.std.specs.List.{AllZip, flat_map}
use Rattle.std.specs.Option.{option_map}
use Rattle.abc_lines.specs.Text.{Text}
use Rattle.abc_tune_compiler.specs.Placed.{Placed, cells_from, items_along}
use Rattle.abc_tune_compiler.specs.Tune.{lines_in}
use Rattle.abc_live_cost.specs.FreshCells.{is_fresh_after}
use Rattle.abc_live_cost.specs.Layout.{FoldedBlock, Layout, chains_of}
use Rattle.abc_live_cost.specs.Origin.{address_of}
use Rattle.abc_live_cost.specs.Past.{Past, first_past, rest}
use Rattle.abc_fold.specs.Steps.{IsAlike, Steps, states_from}

-- The cells of a chain.
abbrev pub cells_of : {State Cell : Type 0} → (List ℕ → List Cell) → Text → FoldedBlock State → List Cell
cells_of read text chain = flat_map read (lines_in text chain.block)

-- The items of a chain, with the numbers of their lines, counted from 1.
abbrev pub items_of : {State Cell Items : Type 0} → Steps State Cell Items → (List ℕ → List Cell) → Text → FoldedBlock State
    → List (Placed Items)
items_of steps read text chain =
    items_along steps.next steps.gives chain.opening (cells_from read (chain.block.from + 1) (lines_in text chain.block))

-- The states of a chain, from scratch.
abbrev pub states_of : {State Cell Items : Type 0} → Steps State Cell Items → (List ℕ → List Cell) → Text → FoldedBlock State
    → List State
states_of steps read text chain = states_from steps chain.opening (cells_of read text chain)

-- The kept states before and after a cell of an old chain.
pub record KeptState (State : Type 0) : Type 0 where
  pub entry : State
  pub after : State

abbrev pub entry_of : {State : Type 0} → Option (KeptState State) → Option State
entry_of held = option_map (λ one. one.entry) held

-- The state after a cell by its kept states.
abbrev pub following : {State : Type 0} → State → Option (KeptState State) → State
following otherwise None = otherwise
following otherwise (Some held) = held.after

-- The count of steps along cells. A cell takes one step if no state is kept of it, or if it was entered in a state that is
-- not equivalent. Else it takes none, and the fold goes on in the kept state.
abbrev pub steps_over : {State Cell Items : Type 0} → Steps State Cell Items → State → List Cell
    → List (Option (KeptState State)) → ℕ
steps_over steps state [] kept_states = 0
steps_over steps state (cell ∷ cells) kept_states =
    cond (is_fresh_after steps.alike state (entry_of (first_past kept_states)))
    (1 + steps_over steps (steps.next state cell) cells (rest kept_states))
    (steps_over steps (following state (first_past kept_states)) cells (rest kept_states))

-- The kept states of a cell match its past, up to equivalent states.
abbrev pub MatchesPast : {State Cell Items : Type 0} → Steps State Cell Items → Cell → Option (KeptState State)
    → Option (Past State) → Type 0
MatchesPast steps cell None None = Unit {0}
MatchesPast steps cell None (Some past) = ⊥
MatchesPast steps cell (Some held) None = ⊥
MatchesPast steps cell (Some held) (Some past) = IsAlike steps held.entry past.entered
    × IsAlike steps held.after (steps.next past.entered cell)

-- Cell by cell.
abbrev pub MatchPasts : {State Cell Items : Type 0} → Steps State Cell Items → List Cell → List (Option (KeptState State))
    → List (Option (Past State)) → Type 0
MatchPasts steps [] kept_states pieces = Unit {0}
MatchPasts steps (cell ∷ cells) kept_states pieces = MatchesPast steps cell (first_past kept_states) (first_past pieces)
    × MatchPasts steps cells (rest kept_states) (rest pieces)

abbrev pub both_kept : {State : Type 0} → Option State → Option State → Option (KeptState State)
both_kept None after = None
both_kept (Some entry) None = None
both_kept (Some entry) (Some after) = Some (record { entry = entry; after = after })

-- The kept states of the cell at a place of a chain, by the kept states of each chain.
abbrev pub kept_state_at : {State : Type 0} → (ℕ → List State) → Option (ℕ × ℕ) → Option (KeptState State)
kept_state_at kept None = None
kept_state_at kept (Some address) = both_kept (slice_get (kept address.0) address.1) (slice_get (kept address.0) (address.1 + 1))

-- The kept states of cells of a new text, found by the places of these pieces in the old one.
abbrev pub kept_states_for : {State : Type 0} → (ℕ → List State) → List (Option (Past State)) → List (Option (KeptState State))
kept_states_for kept pieces = map (λ piece. kept_state_at kept (address_of piece)) pieces

-- The kept states of each old chain are equivalent to those from scratch, one by one.
abbrev pub AreKeptStates : {State Cell Items : Type 0} → Steps State Cell Items → (List ℕ → List Cell) → Layout State
    → (ℕ → List State) → Type 0
AreKeptStates steps read old kept = (was : FoldedBlock _) → Contains (chains_of old) was
    → AllZip (IsAlike steps) (kept was.source) (states_of steps read old.text was)
