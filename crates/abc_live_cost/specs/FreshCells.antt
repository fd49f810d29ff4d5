-- Which cells of an edited text are fresh, and which of its tunes are touched. Not in ABC 2.1.
use Rattle.std.specs.Prelude.{ℕ, ◌+◌, ◌-◌, ◌==◌, ◌&&◌, not, nat_lt, if◌then◌else◌, Bool, true, false, List, [], ◌∷◌, length}
use Rattle.std.specs.Prelude.{count_by, Option, Some, None}
use Rattle.std.specs.List.{list_any}
use Rattle.std.specs.Option.{option_and_then}
use Rattle.abc_lines.specs.Text.{Splice, Text, spliced}
use Rattle.abc_tune_compiler.specs.Rules.{Rules}
use Rattle.abc_live_cost.specs.Spot.{Spot, entry_at, spots_in, spots_of}
use Rattle.abc_live_cost.specs.Layout.{Layout, layout_of, tune_chains}
use Rattle.abc_fold.specs.Steps.{Steps}

-- The old line that a line of the new text is, unless it is a new line.
abbrev pub old_line : Splice → ℕ → Option ℕ
old_line s line =
    if nat_lt line s.at then Some line else
    if nat_lt line (s.at + length s.lines) then None else
    Some (line - length s.lines + s.removed)

-- The place of a cell: its line, and its place in the line, both counted from 0.
pub record CellPlace : Type 0 where
  pub line : ℕ
  pub nth : ℕ

abbrev pub cell_at : ℕ → ℕ → CellPlace
cell_at line nth = record { line = line; nth = nth }

-- The state in which the cell at a place of the new text was entered in the old one, if it was there.
abbrev pub entry_before : {State Cell Items : Type 0} → Steps State Cell Items → (List ℕ → List Cell) → Layout State → Splice
    → CellPlace → Option State
entry_before steps read old s place = option_and_then (λ was. entry_at steps read old was place.nth) (old_line s place.line)

-- A cell is fresh if it was not in the old text, or was entered there in a state that is not equivalent.
abbrev pub is_fresh_after : {State : Type 0} → (State → State → Bool) → State → Option State → Bool
is_fresh_after alike entered None = true
is_fresh_after alike entered (Some was) = not (alike was entered)

-- Whether a cell of the new text is fresh.
abbrev pub is_fresh : {State Cell Items : Type 0} → Steps State Cell Items → (List ℕ → List Cell) → Layout State → Splice
    → Spot State → Bool
is_fresh steps read old s spot =
    is_fresh_after steps.alike spot.entered (entry_before steps read old s (cell_at spot.line spot.nth))

-- The number of fresh cells of a new text.
abbrev pub fresh_cells_in : {State Cell Items : Type 0} → Steps State Cell Items → (List ℕ → List Cell) → Layout State → Splice
    → Layout State → ℕ
fresh_cells_in steps read old s new = count_by (is_fresh steps read old s) (spots_in steps read new)

abbrev pub is_line : ℕ → Option ℕ → Bool
is_line was None = false
is_line was (Some line) = line == was

-- Whether a cell of the new text is this one of the old.
abbrev pub is_carried_from : {State : Type 0} → Splice → Spot State → Spot State → Bool
is_carried_from s spot was = is_line was.line (old_line s spot.line) && (spot.nth == was.nth)

-- Whether cells of the new text are, in order, these of the old.
abbrev pub are_carried_from : {State : Type 0} → Splice → List (Spot State) → List (Spot State) → Bool
are_carried_from s [] [] = true
are_carried_from s [] (was ∷ old_spots) = false
are_carried_from s (spot ∷ spots) [] = false
are_carried_from s (spot ∷ spots) (was ∷ old_spots) = is_carried_from s spot was && are_carried_from s spots old_spots

-- A tune is untouched if its cells are, in order, all the cells of one old tune, and none of them is fresh.
abbrev pub is_untouched : {State Cell Items : Type 0} → Steps State Cell Items → (List ℕ → List Cell) → Layout State → Splice
    → List (Spot State) → Bool
is_untouched steps read old s spots =
    (count_by (is_fresh steps read old s) spots == 0)
    && list_any (λ tune. are_carried_from s spots (spots_of steps read old.text tune)) (tune_chains 1 old.opening old.tunes)

-- The number of touched tunes of a new text.
abbrev pub touched_tunes_in : {State Cell Items : Type 0} → Steps State Cell Items → (List ℕ → List Cell) → Layout State
    → Splice → Layout State → ℕ
touched_tunes_in steps read old s new =
    count_by (λ tune. not (is_untouched steps read old s (spots_of steps read new.text tune))) (tune_chains 1 new.opening new.tunes)

-- The number of fresh cells of a text after a splice of it.
abbrev pub fresh_cells_after : {State Cell Items Defaults : Type 0} → Steps State Cell Items → Rules State Cell Items Defaults
    → Text → Splice → ℕ
fresh_cells_after steps rules text s =
    fresh_cells_in steps rules.cells (layout_of steps rules text) s (layout_of steps rules (spliced text s))

-- The number of touched tunes of a text after a splice of it.
abbrev pub touched_tunes_after : {State Cell Items Defaults : Type 0} → Steps State Cell Items → Rules State Cell Items Defaults
    → Text → Splice → ℕ
touched_tunes_after steps rules text s =
    touched_tunes_in steps rules.cells (layout_of steps rules text) s (layout_of steps rules (spliced text s))
