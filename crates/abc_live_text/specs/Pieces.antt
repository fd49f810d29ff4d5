-- What old chains hold of the cells of lines, and the chain of a block. Not in ABC 2.1.
use Rattle.std.specs.Prelude.{◌≡◌, ◌⊎◌, ℕ, zero, suc, ◌+◌, ◌-◌, ◌<◌, ◌≤◌, List, [], ◌∷◌, map, take, drop, length, slice_get}
use Rattle.std.specs.Prelude.{Option, Some, None}
use Rattle.std.specs.List.{flat_map}
use Rattle.abc_book.specs.declared.block.Block.{Block}
use Rattle.abc_fold.specs.declared.piece.Piece.{Piece}
use Rattle.abc_fold.specs.declared.piece.Piece.TheVariants.{New, Kept}
use Rattle.abc_fold.specs.Chain.{ChainView, Folds, no_cells}
use Rattle.abc_fold.specs.Steps.{Steps}
use Rattle.abc_live_cost.specs.KeptState.{KeptState, kept_state_at, steps_over}
use Rattle.abc_live_cost.specs.Origin.{Origin, addresses}
use Rattle.abc_scan.specs.declared.line_class.LineClass.{LineClass}
use Rattle.abc_live_text.specs.Row.{CarriedRow}

-- What a piece holds of an old chain.
abbrev pub kept_state_in : {F State Cell Items Work : Type 0} → Piece F State Cell Items Work → Option (KeptState State)
kept_state_in (New cell) = None
kept_state_in (Kept cell entered left items) = Some (record { entry = entered; after = left })

abbrev pub kept_states_in : {F State Cell Items Work : Type 0} → List (Piece F State Cell Items Work)
    → List (Option (KeptState State))
kept_states_in pieces = map kept_state_in pieces

-- The states and the cells of the chain of a number.
abbrev pub entries_at : {State Cell Items : Type 0} → List (ChainView State Cell Items) → ℕ → List State
entries_at [] k = []
entries_at (chain ∷ chains) zero = chain.entries
entries_at (chain ∷ chains) (suc k) = entries_at chains k

abbrev pub cells_at : {State Cell Items : Type 0} → List (ChainView State Cell Items) → ℕ → List Cell
cells_at [] k = []
cells_at (chain ∷ chains) zero = chain.cells
cells_at (chain ∷ chains) (suc k) = cells_at chains k

-- A chain has no cells and no states, or is a fold from some state.
abbrev pub IsFolded : {State Cell Items : Type 0} → Steps State Cell Items → ChainView State Cell Items → Type 0
IsFolded {State = State} steps chain = (chain ≡ no_cells) ⊎ ((opening : State) × Folds steps opening chain)

-- If the old chains hold the cells of a line, they are these.
abbrev pub IsCarriedAt : {State Cell Items : Type 0} → List (ChainView State Cell Items) → List Cell → Option Origin → Type 0
IsCarriedAt chains cells None = Unit {0}
IsCarriedAt chains cells (Some origin) = (k : ℕ) → k < length cells
    → slice_get (cells_at chains origin.source) (origin.first + k) ≡ slice_get cells k

abbrev pub IsCarried : {State Cell Items : Type 0} → List (ChainView State Cell Items) → CarriedRow Cell → Type 0
IsCarried chains row = IsCarriedAt chains row.cells row.origin

-- The chain and the place that hold the kth cell of a line.
abbrev pub address_from : ℕ → Option Origin → Option (ℕ × ℕ)
address_from k None = None
address_from k (Some origin) = Some (origin.source, origin.first + k)

-- The kept states of the cells of a line.
abbrev pub kept_states_at : {State Cell Items : Type 0} → List (ChainView State Cell Items) → Option Origin → List Cell
    → List (Option (KeptState State))
kept_states_at chains origin cells = map (kept_state_at (entries_at chains)) (addresses origin cells)

abbrev pub kept_states_of : {State Cell Items : Type 0} → List (ChainView State Cell Items) → CarriedRow Cell
    → List (Option (KeptState State))
kept_states_of chains row = kept_states_at chains row.origin row.cells

abbrev pub class_in : {Cell : Type 0} → CarriedRow Cell → LineClass
class_in row = row.class

abbrev pub cells_in : {Cell : Type 0} → CarriedRow Cell → List Cell
cells_in row = row.cells

abbrev pub origin_in : {Cell : Type 0} → CarriedRow Cell → Option Origin
origin_in row = row.origin

-- The rows of a block.
abbrev pub rows_in : {Cell : Type 0} → List (CarriedRow Cell) → Block → List (CarriedRow Cell)
rows_in rows block = take (block.to - block.from) (drop block.from rows)

abbrev pub cells_over : {Cell : Type 0} → List (CarriedRow Cell) → Block → List Cell
cells_over rows block = flat_map cells_in (rows_in rows block)

abbrev pub kept_states_over : {State Cell Items : Type 0} → List (ChainView State Cell Items) → List (CarriedRow Cell) → Block
    → List (Option (KeptState State))
kept_states_over chains rows block = flat_map (kept_states_of chains) (rows_in rows block)

-- The steps that the chain of a block takes, begun in this state.
abbrev pub steps_taken : {State Cell Items : Type 0} → Steps State Cell Items → State → List (ChainView State Cell Items)
    → List (CarriedRow Cell) → Block → ℕ
steps_taken steps opening chains rows block = steps_over steps opening (cells_over rows block) (kept_states_over chains rows block)

-- A chain is the fold over the cells of a block, from an opening.
pub record IsChain {State Cell Items : Type 0} (steps : Steps State Cell Items) (opening : State)
    (rows : List (CarriedRow Cell)) (chain : ChainView State Cell Items) (block : Block) : Type 0 where
  pub folds : Folds steps opening chain
  pub cells : chain.cells ≡ cells_over rows block

-- A block lies within `count` lines.
abbrev pub LiesWithin : ℕ → Block → Type 0
LiesWithin count block = (block.from ≤ block.to) × (block.to ≤ count)
