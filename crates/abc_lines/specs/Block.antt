-- What a list with a gap keeps its items in, as contracts see it. Not in ABC 2.1.
use Rattle.std.specs.Prelude.{ℕ, ◌-◌, List, [], Option, Some, None}
use Rattle.abc_lines.specs.GapRow.{IsGapped, items_of}
use Rattle.abc_lines.specs.declared.gap_row.GapRow.{GapRow}

-- The items, how many of them precede the gap, and how many places are empty.
pub record BlockView (X : Type 0) : Type 0 where
  pub items : List X
  pub gap : ℕ
  pub room : ℕ

abbrev pub gap_block : {X : Type 0} → List X → ℕ → ℕ → BlockView X
gap_block items gap room = record { items = items; gap = gap; room = room }

-- The view of a row, and of no row.
abbrev pub block_view : {X : Type 0} → Option (GapRow X) → BlockView X
block_view None = gap_block [] 0 0
block_view (Some row) = gap_block (items_of row) row.at (row.capacity - row.size)

-- A row is laid out with its gap.
abbrev pub IsSound : {X : Type 0} → Option (GapRow X) → Type 0
IsSound None = Unit {0}
IsSound (Some row) = IsGapped row
