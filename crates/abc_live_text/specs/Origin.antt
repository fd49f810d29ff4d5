-- Which chains hold the cells of lines. Not in ABC 2.1.
use Rattle.std.specs.Prelude.{ℕ, ◌+◌, ◌-◌, ◌≤◌, List, [], ◌∷◌, ◌++◌, map, take, drop, length, Some, None}
use Rattle.std.specs.List.{flat_map}
use Rattle.abc_book.specs.declared.block.Block.{Block}
use Rattle.abc_live_text.specs.Pieces.{cells_in}
use Rattle.abc_live_text.specs.Row.{CarriedRow, at_origin}

-- The lines of a chain, the first of which holds its cells from this place on.
abbrev pub rows_along : {Cell : Type 0} → ℕ → ℕ → List (CarriedRow Cell) → List (CarriedRow Cell)
rows_along source first [] = []
rows_along source first (row ∷ rows) = at_origin (Some (record { source = source; first = first })) row
    ∷ rows_along source (first + length row.cells) rows

abbrev pub rows_between : {Cell : Type 0} → List (CarriedRow Cell) → ℕ → ℕ → List (CarriedRow Cell)
rows_between rows from to = take (to - from) (drop from rows)

-- The lines of a text from one up to another, with the chains, numbered from `source`, that hold them.
abbrev pub rows_until : {Cell : Type 0} → List (CarriedRow Cell) → ℕ → ℕ → ℕ → List Block → List (CarriedRow Cell)
rows_until rows at to source [] = map (at_origin None) (rows_between rows at to)
rows_until rows at to source (block ∷ blocks) =
    map (at_origin None) (rows_between rows at block.from)
    ++ (rows_along source 0 (rows_between rows block.from block.to) ++ rows_until rows block.to to (source + 1) blocks)

-- Blocks follow one another up to the line `last`.
abbrev pub BlocksRise : ℕ → List Block → ℕ → Type 0
BlocksRise at [] last = at ≤ last
BlocksRise at (block ∷ blocks) last = (at ≤ block.from) × (block.from ≤ block.to) × BlocksRise block.to blocks last

-- How many cells lines have.
abbrev pub cell_count : {Cell : Type 0} → List (CarriedRow Cell) → ℕ
cell_count rows = length (flat_map cells_in rows)
