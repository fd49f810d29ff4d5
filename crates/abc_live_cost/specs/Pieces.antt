-- The pieces of a chain: its cells in the old text, and the test by them for an untouched tune. Not in ABC 2.1.
use Rattle.std.specs.Prelude.{ℕ, zero, suc, ◌+◌, ◌==◌, ◌&&◌, Bool, true, false, List, [], ◌∷◌, ◌++◌, drop, length, Option, Some}
use Rattle.std.specs.Prelude.{None}
use Rattle.std.specs.List.{list_any}
use Rattle.abc_lines.specs.Text.{Splice, Text}
use Rattle.abc_tune_compiler.specs.Tune.{lines_in}
use Rattle.abc_live_cost.specs.Spot.{Spot, spots_of}
use Rattle.abc_live_cost.specs.FreshCells.{old_line, is_line}
use Rattle.abc_live_cost.specs.Layout.{FoldedBlock, Layout, tune_chains}
use Rattle.abc_live_cost.specs.Past.{Past, first_past, first_row, fresh_cells_of, rest}
use Rattle.abc_fold.specs.Steps.{Steps}

-- The pasts of the cells of a line.
abbrev pub pasts_beside : {State Cell : Type 0} → List Cell → List (Option (Past State)) → List (Option (Past State))
pasts_beside [] row = []
pasts_beside (cell ∷ cells) row = first_past row ∷ pasts_beside cells (rest row)

-- The pasts of the cells of lines, the rows beside them.
abbrev pub pasts_over : {State Cell : Type 0} → (List ℕ → List Cell) → Text → List (List (Option (Past State)))
    → List (Option (Past State))
pasts_over read [] rows = []
pasts_over read (bytes ∷ lines) rows = pasts_beside (read bytes) (first_row rows) ++ pasts_over read lines (rest rows)

-- The pasts of the cells of a chain.
abbrev pub pasts_of_chain : {State Cell : Type 0} → (List ℕ → List Cell) → Text → List (List (Option (Past State)))
    → FoldedBlock State → List (Option (Past State))
pasts_of_chain read text rows chain = pasts_over read (lines_in text chain.block) (drop chain.block.from rows)

abbrev pub is_place : {State : Type 0} → ℕ → ℕ → Option (Past State) → Bool
is_place source place None = false
is_place source place (Some past) = (past.source == source) && (past.place == place)

-- Whether pieces are `count` cells of a chain, one after another, from this place on.
abbrev pub are_places : {State : Type 0} → ℕ → ℕ → ℕ → List (Option (Past State)) → Bool
are_places source place zero [] = true
are_places source place (suc count) [] = false
are_places source place zero (past ∷ pasts) = false
are_places source place (suc count) (past ∷ pasts) = is_place source place past && are_places source (place + 1) count pasts

-- Whether pieces are all the cells of one old tune, from its first to its last.
abbrev pub are_one_tune : {State Cell Items : Type 0} → Steps State Cell Items → (List ℕ → List Cell) → Layout State
    → List (Option (Past State)) → Bool
are_one_tune steps read old pieces =
    list_any (λ tune. are_places tune.source 0 (length (spots_of steps read old.text tune)) pieces)
    (tune_chains 1 old.opening old.tunes)

-- A new text with its rows.
pub record TextWithRows (State : Type 0) : Type 0 where
  pub text : Text
  pub rows : List (List (Option (Past State)))

abbrev pub text_with_rows : {State : Type 0} → Text → List (List (Option (Past State))) → TextWithRows State
text_with_rows text rows = record { text = text; rows = rows }

-- Whether a tune is untouched by its pieces: none of its cells is fresh, and they are all those of one old tune.
abbrev pub is_untouched_by : {State Cell Items : Type 0} → Steps State Cell Items → (List ℕ → List Cell) → Layout State
    → TextWithRows State → FoldedBlock State → Bool
is_untouched_by steps read old new chain =
    (fresh_cells_of steps read new.text new.rows chain == 0)
    && are_one_tune steps read old (pasts_of_chain read new.text new.rows chain)

-- Whether the lines of these cells of the new text are carried, in order, from those of these of the old.
abbrev pub have_lines_of : {State : Type 0} → Splice → List (Spot State) → List (Spot State) → Bool
have_lines_of s [] [] = true
have_lines_of s [] (was ∷ old_spots) = false
have_lines_of s (spot ∷ spots) [] = false
have_lines_of s (spot ∷ spots) (was ∷ old_spots) = is_line was.line (old_line s spot.line) && have_lines_of s spots old_spots
