-- Laws that connect the rows that code traverses with fresh cells and touched tunes. Not in ABC 2.1.
use Rattle.std.specs.Prelude.{◌≡◌, ℕ, ◌+◌, ◌≤◌, ◌==◌, List, map, filter, length, slice_get, Contains, Some}
use Rattle.std.specs.List.{sum_by}
use Rattle.std.specs.Option.{option_map}
use Rattle.abc_lines.specs.Text.{Splice, Text, spliced}
use Rattle.abc_tune_compiler.specs.Placed.{cells_from, items_along, placed_at}
use Rattle.abc_tune_compiler.specs.Rules.{Rules}
use Rattle.abc_live_cost.specs.Spot.{spots_along, entry_at, spots_in, spots_of}
use Rattle.abc_live_cost.specs.FreshCells.{are_carried_from, cell_at, entry_before, fresh_cells_after, fresh_cells_in, is_untouched}
use Rattle.abc_live_cost.specs.KeptState.{states_of}
use Rattle.abc_live_cost.specs.Layout.{FoldedBlock, Layout, LiesInOrder, chains_of, layout_of}
use Rattle.abc_live_cost.specs.Origin.{address_of, addresses_beside, origins}
use Rattle.abc_live_cost.specs.Past.{Past, entry_of_past, fresh_cells_of, past_at, pasts, row_at, rows_of}
use Rattle.abc_live_cost.specs.Pieces.{have_lines_of, is_untouched_by, text_with_rows}
use Rattle.abc_fold.specs.Steps.{Steps}

-- The file header and the tunes of every text follow one another within it.
abbrev pub ChainsLieInOrder : Type 0 → Type 0 → Type 0 → Type 0 → Type 0
ChainsLieInOrder State Cell Items Defaults =
    (steps : Steps State Cell Items) (rules : Rules State Cell Items Defaults) (text : Text)
    → LiesInOrder (layout_of steps rules text)

-- The states in which the cells of lines are entered are the items of the fold that gives the state itself.
abbrev pub EnteredAreItems : Type 0 → Type 0 → Type 0 → Type 0
EnteredAreItems State Cell Items =
    (steps : Steps State Cell Items) (read : List ℕ → List Cell) (line : ℕ) (state : State) (lines : Text)
    → map (λ spot. placed_at spot.line spot.entered) (spots_along steps read line state lines)
    ≡ items_along steps.next (λ entered cell. entered) state (cells_from read line lines)

-- The state in which the nth cell of a line is entered is the nth of those of the line.
abbrev pub NthOfLine : Type 0 → Type 0 → Type 0 → Type 0
NthOfLine State Cell Items =
    (steps : Steps State Cell Items) (read : List ℕ → List Cell) (layout : Layout State) (line nth : ℕ) → LiesInOrder layout
    → slice_get (map (λ spot. spot.entered) (filter (λ spot. spot.line == line) (spots_in steps read layout))) nth
    ≡ entry_at steps read layout line nth

-- The past of a cell by the rows is its entry in the old text.
abbrev pub RowsAgree : Type 0 → Type 0 → Type 0 → Type 0
RowsAgree State Cell Items =
    (steps : Steps State Cell Items) (read : List ℕ → List Cell) (old : Layout State) (s : Splice) (line nth : ℕ)
    → LiesInOrder old → s.at + s.removed ≤ length old.text
    → entry_of_past (past_at (pasts steps read old s) line nth) ≡ entry_before steps read old s (cell_at line nth)

-- Counted along the rows, chain by chain, the fresh cells are those of the definition.
abbrev pub RowsCountFreshCells : Type 0 → Type 0 → Type 0 → Type 0
RowsCountFreshCells State Cell Items =
    (steps : Steps State Cell Items) (read : List ℕ → List Cell) (old new : Layout State) (s : Splice)
    → LiesInOrder old → s.at + s.removed ≤ length old.text
    → sum_by (fresh_cells_of steps read new.text (pasts steps read old s)) (chains_of new) ≡ fresh_cells_in steps read old s new

-- For every text and every splice of it, the fresh cells counted along the rows are those of the definition.
abbrev pub EditsCount : Type 0 → Type 0 → Type 0 → Type 0 → Type 0
EditsCount State Cell Items Defaults =
    (steps : Steps State Cell Items) (rules : Rules State Cell Items Defaults) (text : Text) (s : Splice)
    → s.at + s.removed ≤ length text
    → sum_by (fresh_cells_of steps rules.cells (spliced text s) (pasts steps rules.cells (layout_of steps rules text) s))
    (chains_of (layout_of steps rules (spliced text s)))
    ≡ fresh_cells_after steps rules text s

-- A tune is untouched by its pieces exactly if it is by its lines.
abbrev pub PiecesDecide : Type 0 → Type 0 → Type 0 → Type 0
PiecesDecide State Cell Items =
    (steps : Steps State Cell Items) (read : List ℕ → List Cell) (old : Layout State) (s : Splice) (text : Text)
    (chain : FoldedBlock State)
    → LiesInOrder old → s.at + s.removed ≤ length old.text
    → is_untouched_by steps read old (text_with_rows text (pasts steps read old s)) chain
    ≡ is_untouched steps read old s (spots_of steps read text chain)

-- Whether the cells of a chain are those of an old one follows from their lines alone.
abbrev pub LinesSuffice : Type 0 → Type 0 → Type 0 → Type 0
LinesSuffice State Cell Items =
    (steps : Steps State Cell Items) (read : List ℕ → List Cell) (old text : Text) (s : Splice) (chain was : FoldedBlock State)
    → have_lines_of s (spots_of steps read text chain) (spots_of steps read old was)
    ≡ are_carried_from s (spots_of steps read text chain) (spots_of steps read old was)

-- Origins agree with pasts, row by row.
abbrev pub OriginsAgree : Type 0 → Type 0 → Type 0 → Type 0
OriginsAgree State Cell Items =
    (steps : Steps State Cell Items) (read : List ℕ → List Cell) (old : Layout State) (s : Splice)
    → LiesInOrder old → s.at + s.removed ≤ length old.text
    → map (λ row. map (address_of {State = State}) row) (pasts steps read old s)
    ≡ addresses_beside read (origins read old s) (spliced old.text s)

-- A past is the cell of the chain and place that it names.
abbrev pub PastsNameCells : Type 0 → Type 0 → Type 0 → Type 0
PastsNameCells State Cell Items =
    (steps : Steps State Cell Items) (read : List ℕ → List Cell) (old : Layout State) (line nth : ℕ) (past : Past State)
    (was : FoldedBlock State)
    → LiesInOrder old → Contains (chains_of old) was → was.source ≡ past.source
    → past_at (rows_of steps read old) line nth ≡ Some past
    → option_map (λ spot. spot.entered) (slice_get (spots_of steps read old.text was) past.place) ≡ Some past.entered

-- If a cell of the new text has a past, the old chain has the states before and after that cell at the place of the
-- past.
abbrev pub PastsHaveStates : Type 0 → Type 0 → Type 0 → Type 0
PastsHaveStates State Cell Items =
    (steps : Steps State Cell Items) (read : List ℕ → List Cell) (old : Layout State) (s : Splice) (line nth : ℕ)
    (past : Past State) (was : FoldedBlock State) (cell : Cell)
    → LiesInOrder old → s.at + s.removed ≤ length old.text → Contains (chains_of old) was → was.source ≡ past.source
    → past_at (pasts steps read old s) line nth ≡ Some past
    → slice_get (read (row_at (spliced old.text s) line)) nth ≡ Some cell
    → (slice_get (states_of steps read old.text was) past.place ≡ Some past.entered)
    × (slice_get (states_of steps read old.text was) (past.place + 1) ≡ Some (steps.next past.entered cell))
