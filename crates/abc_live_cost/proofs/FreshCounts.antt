-- Counted along the rows, the fresh cells are those of the definition.
use Rattle.std.proofs.Common.{◌≡◌, ℕ, suc, ◌+◌, ◌≤◌, cond, Bool, List, [], ◌∷◌, drop, length, slice_get, Option, sum_by, count_by}
use Rattle.std.proofs.Common.{flat_map, refl, sym, ap, ◌∙◌, arith, zero-add}
use Rattle.std.proofs.lemmas.List.Sums.{sum_by-append, sum_by-cons}
use Rattle.std.specs.Option.{option_flatten}
use Rattle.abc_lines.specs.Text.{Text, Splice, spliced}
use Rattle.abc_tune_compiler.specs.Tune.{lines_in}
use Rattle.abc_fold.specs.Steps.{Steps, state_after}
use Rattle.abc_live_cost.specs.Layout.{Layout, layout_of, FoldedBlock, chains_of, LiesInOrder}
use Rattle.abc_live_cost.specs.Spot.{Spot, spot_at, spots_in_line, spots_along, spots_of}
use Rattle.abc_live_cost.specs.FreshCells.{is_fresh_after, is_fresh}
use Rattle.abc_live_cost.specs.Past.{Past, pasts, row_at, past_at, entry_of_past, first_past, first_row, rest}
use Rattle.abc_live_cost.specs.Past.{fresh_cells_in_line, fresh_cells_along, fresh_cells_of}
use Rattle.abc_live_cost.specs.Laws.{RowsCountFreshCells, EditsCount}
use Rattle.abc_live_cost.proofs.Words.{chains_lie_in_order}
use Rattle.abc_live_cost.proofs.Lists.{row_drop}
use Rattle.abc_live_cost.proofs.Rows.{rows_agree}

-- a spot is fresh by a look-up of its past
abbrev pub by_look_up : {State Cell Items : Type 0} → Steps State Cell Items → (List ℕ → List Cell) → (ℕ → ℕ → Option (Past State)) → Spot State → Bool
by_look_up steps read past spot = is_fresh_after steps.alike spot.entered (entry_of_past (past spot.line spot.nth))

pub first_get : {A : Type 0} (options : List (Option A)) → option_flatten (slice_get options 0) ≡ first_past options
first_get [] = refl
first_get (a ∷ more) = refl

pub rest_get : {A : Type 0} (row : List A) (k : ℕ) → slice_get (rest row) k ≡ slice_get row (suc k)
rest_get [] k = refl
rest_get (a ∷ row) k = refl

pub rest_row : {A : Type 0} (rows : List (List A)) (i : ℕ) → row_at (rest rows) i ≡ row_at rows (suc i)
rest_row [] i = refl
rest_row (row ∷ rows) i = refl

pub first_row_at : {A : Type 0} (rows : List (List A)) → row_at rows 0 ≡ first_row rows
first_row_at [] = refl
first_row_at (row ∷ rows) = refl

pub count_line : {State Cell Items : Type 0} (steps : Steps State Cell Items) (read : List ℕ → List Cell)
    (past : ℕ → ℕ → Option (Past State)) (line nth : ℕ) (state : State) (cells : List Cell) (row : List (Option (Past State)))
    → ((k : ℕ) → past line (nth + k) ≡ option_flatten (slice_get row k))
    → fresh_cells_in_line steps state cells row ≡ count_by (by_look_up steps read past) (spots_in_line steps.next line nth state cells)
count_line steps read past line nth state [] row h = refl
count_line {State = State} steps read past line nth state (cell ∷ cells) row h =
    let here : first_past row ≡ past line nth = sym (ap (λ m. past line m) (omega arith) ∙ (h 0 ∙ first_get row)) in
    let more : fresh_cells_in_line steps (steps.next state cell) cells (rest row) ≡ count_by (by_look_up steps read past) (spots_in_line steps.next line (nth + 1) (steps.next state cell) cells) =
    count_line steps read past line (nth + 1) (steps.next state cell) cells (rest row) (λ k. ap (λ m. past line m) (omega arith) ∙ (h (suc k) ∙ ap option_flatten (sym (rest_get row k)))) in
    (λ i. cond (is_fresh_after steps.alike state (entry_of_past (here i))) 1 0 + more i)
    ∙ sym (sum_by-cons (λ spot. cond (by_look_up steps read past spot) 1 0) (spot_at line nth state) (spots_in_line steps.next line (nth + 1) (steps.next state cell) cells))

pub count_along : {State Cell Items : Type 0} (steps : Steps State Cell Items) (read : List ℕ → List Cell)
    (past : ℕ → ℕ → Option (Past State)) (line : ℕ) (state : State) (lines : Text) (rows : List (List (Option (Past State))))
    → ((i k : ℕ) → past (line + i) k ≡ past_at rows i k) → fresh_cells_along steps read state lines rows ≡ count_by (by_look_up steps read past) (spots_along steps read line state lines)
count_along steps read past line state [] rows h = refl
count_along steps read past line state (bytes ∷ lines) rows h =
    let cells = read bytes in
    let here : fresh_cells_in_line steps state cells (first_row rows) ≡ count_by (by_look_up steps read past) (spots_in_line steps.next line 0 state cells) =
    count_line steps read past line 0 state cells (first_row rows)
    (λ k. ap (λ m. past m (0 + k)) (omega arith) ∙ (ap (λ m. past (line + 0) m) (zero-add k) ∙ (h 0 k ∙ ap (λ row. option_flatten (slice_get row k)) (first_row_at rows)))) in
    let more : fresh_cells_along steps read (state_after steps.next state cells) lines (rest rows)
    ≡ count_by (by_look_up steps read past) (spots_along steps read (line + 1) (state_after steps.next state cells) lines) =
    count_along steps read past (line + 1) (state_after steps.next state cells) lines (rest rows)
    (λ i k. ap (λ m. past m k) (omega arith) ∙ (h (suc i) k ∙ ap (λ row. option_flatten (slice_get row k)) (sym (rest_row rows i)))) in
    (λ i. here i + more i)
    ∙ sym (sum_by-append (λ spot. cond (by_look_up steps read past spot) 1 0) (spots_in_line steps.next line 0 state cells)
    (spots_along steps read (line + 1) (state_after steps.next state cells) lines))

pub count_chains : {State Cell Items : Type 0} (steps : Steps State Cell Items) (read : List ℕ → List Cell) (text : Text)
    (rows : List (List (Option (Past State)))) (chains : List (FoldedBlock State))
    → sum_by (fresh_cells_of steps read text rows) chains ≡ count_by (by_look_up steps read (past_at rows)) (flat_map (spots_of steps read text) chains)
count_chains steps read text rows [] = refl
count_chains steps read text rows (chain ∷ chains) =
    let here : fresh_cells_of steps read text rows chain ≡ count_by (by_look_up steps read (past_at rows)) (spots_of steps read text chain) =
    count_along steps read (past_at rows) chain.block.from chain.opening (lines_in text chain.block) (drop chain.block.from rows)
    (λ i k. ap (λ row. option_flatten (slice_get row k)) (sym (row_drop chain.block.from rows i))) in
    sum_by-cons (fresh_cells_of steps read text rows) chain chains
    ∙ ((λ i. here i + count_chains steps read text rows chains i)
    ∙ sym (sum_by-append (λ spot. cond (by_look_up steps read (past_at rows) spot) 1 0) (spots_of steps read text chain) (flat_map (spots_of steps read text) chains)))

pub counted_alike : {A : Type 0} (p q : A → Bool) (xs : List A) → ((x : A) → p x ≡ q x) → count_by p xs ≡ count_by q xs
counted_alike {A = A} p q xs h = ap (λ (t : A → Bool). count_by t xs) (λ i x. h x i)

pub rows_count_fresh_cells : {State Cell Items : Type 0} → RowsCountFreshCells State Cell Items
rows_count_fresh_cells steps read old new s h inside =
    count_chains steps read new.text (pasts steps read old s) (chains_of new)
    ∙ counted_alike (by_look_up steps read (past_at (pasts steps read old s))) (is_fresh steps read old s)
    (flat_map (spots_of steps read new.text) (chains_of new)) (λ spot. ap (is_fresh_after steps.alike spot.entered) (rows_agree steps read old s spot.line spot.nth h inside))

pub edits_count : {State Cell Items Defaults : Type 0} → EditsCount State Cell Items Defaults
edits_count steps rules text s inside = rows_count_fresh_cells steps rules.cells (layout_of steps rules text) (layout_of steps rules (spliced text s)) s (chains_lie_in_order steps rules text) inside

-- the fresh cells of one chain
pub fresh_of_chain : {State Cell Items : Type 0} (steps : Steps State Cell Items) (read : List ℕ → List Cell) (old : Layout State)
    (s : Splice) (text : Text) (chain : FoldedBlock State) → LiesInOrder old → s.at + s.removed ≤ length old.text
    → fresh_cells_of steps read text (pasts steps read old s) chain ≡ count_by (is_fresh steps read old s) (spots_of steps read text chain)
fresh_of_chain steps read old s text chain h inside =
    count_along steps read (past_at (pasts steps read old s)) chain.block.from chain.opening (lines_in text chain.block)
    (drop chain.block.from (pasts steps read old s)) (λ i k. ap (λ row. option_flatten (slice_get row k)) (sym (row_drop chain.block.from (pasts steps read old s) i)))
    ∙ counted_alike (by_look_up steps read (past_at (pasts steps read old s))) (is_fresh steps read old s)
    (spots_of steps read text chain) (λ spot. ap (is_fresh_after steps.alike spot.entered) (rows_agree steps read old s spot.line spot.nth h inside))
