-- What an edit may reuse, and how many steps it reuses kept states. Not in ABC 2.1.
use Rattle.std.specs.Prelude.{◌≡◌, ℕ, ◌+◌, ◌≤◌, true, List, length, Option}
use Rattle.std.specs.List.{Any}
use Rattle.abc_lines.specs.Text.{Splice, Text, spliced}
use Rattle.abc_tune_compiler.specs.Placed.{cells_from, placed_values}
use Rattle.abc_tune_compiler.specs.Tune.{lines_in}
use Rattle.abc_live_cost.specs.Spot.{spots_of}
use Rattle.abc_live_cost.specs.FreshCells.{are_carried_from, is_untouched}
use Rattle.abc_live_cost.specs.KeptState.{AreKeptStates, KeptState, MatchPasts, cells_of, kept_states_for, items_of, steps_over}
use Rattle.abc_live_cost.specs.Layout.{FoldedBlock, Layout, LiesInOrder, tune_chains}
use Rattle.abc_live_cost.specs.Past.{Past, fresh_cells_of, pasts}
use Rattle.abc_live_cost.specs.Pieces.{pasts_of_chain}
use Rattle.abc_fold.specs.Steps.{IsAlike, IsResumable, Steps}

-- The cells of a chain are those that its lines have in the book.
abbrev pub CellsAreThings : Type 0 → Type 0 → Type 0
CellsAreThings State Cell =
    (read : List ℕ → List Cell) (text : Text) (chain : FoldedBlock State)
    → placed_values (cells_from read (chain.block.from + 1) (lines_in text chain.block)) ≡ cells_of read text chain

-- A chain whose cells are carried, in order, from all those of an old one has the same cells.
abbrev pub CarriedCells : Type 0 → Type 0 → Type 0 → Type 0
CarriedCells State Cell Items =
    (steps : Steps State Cell Items) (read : List ℕ → List Cell) (old : Text) (s : Splice) (chain was : FoldedBlock State)
    → s.at + s.removed ≤ length old
    → are_carried_from s (spots_of steps read (spliced old s) chain) (spots_of steps read old was) ≡ true
    → cells_of read (spliced old s) chain ≡ cells_of read old was

-- The cells of an untouched tune give the items of an old one.
abbrev pub UntouchedItems : Type 0 → Type 0 → Type 0 → Type 0
UntouchedItems State Cell Items =
    (steps : Steps State Cell Items) (read : List ℕ → List Cell) (old : Layout State) (s : Splice) (chain : FoldedBlock State)
    → LiesInOrder old → s.at + s.removed ≤ length old.text → IsResumable steps
    → is_untouched steps read old s (spots_of steps read (spliced old.text s) chain) ≡ true
    → Any (λ was. placed_values (items_of steps read (spliced old.text s) chain) ≡ placed_values (items_of steps read old.text was))
    (tune_chains 1 old.opening old.tunes)

-- If the kept states match the pasts of a chain's cells, the steps along it are its fresh cells.
abbrev pub StepsAreFresh : Type 0 → Type 0 → Type 0 → Type 0
StepsAreFresh State Cell Items =
    (steps : Steps State Cell Items) (read : List ℕ → List Cell) (text : Text) (rows : List (List (Option (Past State))))
    (chain : FoldedBlock State) (state : State) (kept_states : List (Option (KeptState State)))
    → IsResumable steps → IsAlike steps state chain.opening
    → MatchPasts steps (cells_of read text chain) kept_states (pasts_of_chain read text rows chain)
    → steps_over steps state (cells_of read text chain) kept_states ≡ fresh_cells_of steps read text rows chain

-- The kept states of a new chain's cells, found by their old places, match their pasts.
abbrev pub KeptStatesMatch : Type 0 → Type 0 → Type 0 → Type 0
KeptStatesMatch State Cell Items =
    (steps : Steps State Cell Items) (read : List ℕ → List Cell) (old : Layout State) (s : Splice) (chain : FoldedBlock State)
    (kept : ℕ → List State)
    → LiesInOrder old → s.at + s.removed ≤ length old.text → AreKeptStates steps read old kept
    → MatchPasts steps (cells_of read (spliced old.text s) chain)
    (kept_states_for kept (pasts_of_chain read (spliced old.text s) (pasts steps read old s) chain))
    (pasts_of_chain read (spliced old.text s) (pasts steps read old s) chain)
