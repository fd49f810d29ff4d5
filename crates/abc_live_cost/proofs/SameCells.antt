-- Chains with the same cells, and what they give.
use Rattle.std.proofs.Common.{IsTrue, ◌≡◌, ℕ, suc, ◌+◌, ◌-◌, ◌<◌, ◌≤◌, ◌==◌, true, false, List, [], ◌∷◌, ◌++◌, map, take, drop}
use Rattle.std.proofs.Common.{length, slice_get, nat_lt, Option, Some, None, flat_map, filter_map, refl, sym, ap, ◌∙◌, ⊎_elim}
use Rattle.std.proofs.Common.{arith, zero-add, append_assoc}
use Rattle.std.proofs.lemmas.Bool.{cases_lt, lt-ltb, le-ltb, and_parts, eqb-true}
use Rattle.std.proofs.lemmas.List.{length-take, map-append}
use Rattle.abc_lines.specs.Text.{Text, Splice, spliced}
use Rattle.abc_tune_compiler.specs.Placed.{Placed, placed_at, placed_values, cells_from, items_along}
use Rattle.abc_tune_compiler.specs.Tune.{lines_in}
use Rattle.abc_fold.specs.Steps.{Steps, IsResumable, state_after}
use Rattle.abc_live_cost.specs.Layout.{FoldedBlock}
use Rattle.abc_live_cost.specs.Spot.{Spot, spots_in_line, spots_along, spots_of}
use Rattle.abc_live_cost.specs.FreshCells.{old_line, is_line, is_carried_from, are_carried_from}
use Rattle.abc_live_cost.specs.Past.{row_at}
use Rattle.abc_live_cost.specs.KeptState.{items_of, cells_of}
use Rattle.abc_live_cost.specs.EditLaws.{CellsAreThings, CarriedCells}
use Rattle.abc_live_cost.proofs.Lists.{row_before, row_after, row_take, row_drop}

-- what a fold gives along cells, without their lines
abbrev pub given_over : {State Cell Items : Type 0} → Steps State Cell Items → State → List Cell → List Items
given_over steps state [] = []
given_over steps state (cell ∷ cells) = steps.gives state cell ∷ given_over steps (steps.next state cell) cells

pub same_items : {State Cell Items : Type 0} (steps : Steps State Cell Items) (a b : State) (cells : List Cell) → IsResumable steps
    → IsTrue (steps.alike a b) → given_over steps a cells ≡ given_over steps b cells
same_items steps a b [] one h = refl
same_items steps a b (cell ∷ cells) one h = λ i. one.equal_items a b cell h i ∷ same_items steps (steps.next a cell) (steps.next b cell) cells one (one.alike_states a b cell h) i

things_given : {State Cell Items : Type 0} (steps : Steps State Cell Items) (state : State) (cells : List (Placed Cell))
    → placed_values (items_along steps.next steps.gives state cells) ≡ given_over steps state (placed_values cells)
things_given steps state [] = refl
things_given steps state (cell ∷ cells) = ap (λ l. steps.gives state cell.here ∷ l) (things_given steps (steps.next state cell.here) cells)

things_line : {Cell : Type 0} (line : ℕ) (cells : List Cell) → placed_values (map (placed_at line) cells) ≡ cells
things_line line [] = refl
things_line line (cell ∷ cells) = ap (λ l. cell ∷ l) (things_line line cells)

things_from : {Cell : Type 0} (read : List ℕ → List Cell) (line : ℕ) (lines : Text) → placed_values (cells_from read line lines) ≡ flat_map read lines
things_from read line [] = refl
things_from {Cell = Cell} read line (bytes ∷ lines) =
    map-append (λ (one : Placed Cell). one.here) (map (placed_at line) (read bytes)) (cells_from read (line + 1) lines)
    ∙ (λ i. things_line line (read bytes) i ++ things_from read (line + 1) lines i)

pub cells_are_things : {State Cell : Type 0} → CellsAreThings State Cell
cells_are_things read text chain = things_from read (chain.block.from + 1) (lines_in text chain.block)

pub items_given : {State Cell Items : Type 0} (steps : Steps State Cell Items) (read : List ℕ → List Cell) (text : Text)
    (chain : FoldedBlock State) → placed_values (items_of steps read text chain) ≡ given_over steps chain.opening (cells_of read text chain)
items_given steps read text chain =
    things_given steps chain.opening (cells_from read (chain.block.from + 1) (lines_in text chain.block))
    ∙ ap (given_over steps chain.opening) (cells_are_things read text chain)

-- the cell at a place of a text
abbrev pub cell_at : {State Cell Items : Type 0} → Steps State Cell Items → (List ℕ → List Cell) → Text → Spot State → Option Cell
cell_at steps read text spot = slice_get (read (row_at text spot.line)) spot.nth

cells_in_line : {State Cell Items : Type 0} (steps : Steps State Cell Items) (read : List ℕ → List Cell) (text : Text)
    (line nth : ℕ) (state : State) (cells : List Cell) → ((k : ℕ)
    → slice_get (read (row_at text line)) (nth + k) ≡ slice_get cells k) → map (cell_at steps read text) (spots_in_line steps.next line nth state cells) ≡ map (λ cell. Some cell) cells
cells_in_line steps read text line nth state [] h = refl
cells_in_line steps read text line nth state (cell ∷ cells) h =
    let here : slice_get (read (row_at text line)) nth ≡ Some cell = ap (λ k. slice_get (read (row_at text line)) k) (omega arith) ∙ h 0 in
    let more : map (cell_at steps read text) (spots_in_line steps.next line (nth + 1) (steps.next state cell) cells) ≡ map (λ c. Some c) cells =
    cells_in_line steps read text line (nth + 1) (steps.next state cell) cells (λ k. ap (λ m. slice_get (read (row_at text line)) m) (omega arith) ∙ h (suc k)) in
    λ i. here i ∷ more i

cells_along : {State Cell Items : Type 0} (steps : Steps State Cell Items) (read : List ℕ → List Cell) (text : Text) (line : ℕ)
    (state : State) (lines : Text) → ((i : ℕ) → i < length lines → row_at text (line + i) ≡ row_at lines i)
    → map (cell_at steps read text) (spots_along steps read line state lines) ≡ map (λ cell. Some cell) (flat_map read lines)
cells_along steps read text line state [] h = refl
cells_along {Cell = Cell} steps read text line state (bytes ∷ lines) h =
    let some : Cell → Option Cell = λ cell. Some cell in
    let row : row_at text line ≡ bytes = ap (row_at text) (omega arith) ∙ h 0 (omega arith) in
    let here : map (cell_at steps read text) (spots_in_line steps.next line 0 state (read bytes)) ≡ map some (read bytes) =
    cells_in_line steps read text line 0 state (read bytes) (λ k. ap (λ m. slice_get (read (row_at text line)) m) (zero-add k) ∙ ap (λ b. slice_get (read b) k) row) in
    let more : map (cell_at steps read text) (spots_along steps read (line + 1) (state_after steps.next state (read bytes)) lines) ≡ map some (flat_map read lines) =
    cells_along steps read text (line + 1) (state_after steps.next state (read bytes)) lines (λ i l. ap (row_at text) (omega arith) ∙ h (suc i) (omega arith)) in
    map-append (cell_at steps read text) (spots_in_line steps.next line 0 state (read bytes)) (spots_along steps read (line + 1) (state_after steps.next state (read bytes)) lines)
    ∙ ((λ i. here i ++ more i) ∙ sym (map-append some (read bytes) (flat_map read lines)))

pub cells_of_chain : {State Cell Items : Type 0} (steps : Steps State Cell Items) (read : List ℕ → List Cell) (text : Text)
    (chain : FoldedBlock State) → map (cell_at steps read text) (spots_of steps read text chain) ≡ map (λ cell. Some cell) (cells_of read text chain)
cells_of_chain steps read text chain =
    let short = length-take (chain.block.to - chain.block.from) (drop chain.block.from text) in
    cells_along steps read text chain.block.from chain.opening (lines_in text chain.block)
    (λ i l. sym (row_take (chain.block.to - chain.block.from) (drop chain.block.from text) i (omega arith) ∙ row_drop chain.block.from text i))

pub is_carried_line : (o : Option ℕ) (m : ℕ) → is_line m o ≡ true → o ≡ Some m
is_carried_line None m h = absurd (cc)
is_carried_line (Some n) m h = ap (λ k. Some k) (eqb-true n m h)

pub carried_line : (old : Text) (s : Splice) (n m : ℕ) → s.at + s.removed ≤ length old → old_line s n ≡ Some m → row_at (spliced old s) n ≡ row_at old m
unfolding spliced
carried_line old s n m inside h =
    let front = take s.at old in
    let tail = drop (s.at + s.removed) old in
    let a : length front ≡ s.at = length-take s.at old ∙ omega arith in
    let one : spliced old s ≡ front ++ (s.lines ++ tail) = append_assoc front s.lines tail in
    ap (λ l. row_at l n) one ∙ ⊎_elim
    (λ (l : n < s.at).
    let yes : nat_lt n s.at ≡ true = lt-ltb n s.at l in
    let same : n ≡ m = cc (simp yes at h) in
    row_before front (s.lines ++ tail) n (omega arith) ∙ (row_take s.at old n l ∙ ap (row_at old) same))
    (λ (l : s.at ≤ n).
    let no : nat_lt n s.at ≡ false = le-ltb n s.at l in
    ⊎_elim
    (λ (k : n < s.at + length s.lines).
    let yes : nat_lt n (s.at + length s.lines) ≡ true = lt-ltb n (s.at + length s.lines) k in
    absurd (cc (simp (no, yes) at h)))
    (λ (k : s.at + length s.lines ≤ n).
    let no' : nat_lt n (s.at + length s.lines) ≡ false = le-ltb n (s.at + length s.lines) k in
    let same : n - length s.lines + s.removed ≡ m = cc (simp (no, no') at h) in
    let j = n - s.at in
    let q = j - length s.lines in
    let there : length front + j ≡ n = omega arith in
    let following : length s.lines + q ≡ j = omega arith in
    let was : s.at + s.removed + q ≡ m = omega arith in
    ap (row_at (front ++ (s.lines ++ tail))) (sym there) ∙ (row_after front (s.lines ++ tail) j
    ∙ (ap (row_at (s.lines ++ tail)) (sym following) ∙ (row_after s.lines tail q ∙ (row_drop (s.at + s.removed) old q ∙ ap (row_at old) was)))))
    (cases_lt n (s.at + length s.lines)))
    (cases_lt n s.at)

carried_all : {State Cell Items : Type 0} (steps : Steps State Cell Items) (read : List ℕ → List Cell) (old : Text) (s : Splice)
    (spots old_spots : List (Spot State)) → s.at + s.removed ≤ length old → are_carried_from s spots old_spots ≡ true
    → map (cell_at steps read (spliced old s)) spots ≡ map (cell_at steps read old) old_spots
carried_all steps read old s [] [] inside h = refl
carried_all steps read old s [] (was ∷ old_spots) inside h = absurd (cc)
carried_all steps read old s (spot ∷ spots) [] inside h = absurd (cc)
carried_all steps read old s (spot ∷ spots) (was ∷ old_spots) inside h =
    let both = and_parts (is_carried_from s spot was) (are_carried_from s spots old_spots) h in
    let one = and_parts (is_line was.line (old_line s spot.line)) (spot.nth == was.nth) both.0 in
    let line : row_at (spliced old s) spot.line ≡ row_at old was.line = carried_line old s spot.line was.line inside (is_carried_line (old_line s spot.line) was.line one.0) in
    let nth : spot.nth ≡ was.nth = eqb-true spot.nth was.nth one.1 in
    let more : map (cell_at steps read (spliced old s)) spots ≡ map (cell_at steps read old) old_spots = carried_all steps read old s spots old_spots inside both.1 in
    λ i. slice_get (read (line i)) (nth i) ∷ more i

all_some : {A : Type 0} (xs : List A) → filter_map (λ (o : Option A). o) (map (λ x. Some x) xs) ≡ xs
all_some [] = refl
all_some (x ∷ xs) = ap (λ l. x ∷ l) (all_some xs)

pub carried_cells : {State Cell Items : Type 0} → CarriedCells State Cell Items
carried_cells {Cell = Cell} steps read old s chain was inside h =
    let a = cells_of_chain steps read (spliced old s) chain in
    let b = cells_of_chain steps read old was in
    let c = carried_all steps read old s (spots_of steps read (spliced old s) chain) (spots_of steps read old was) inside h in
    sym (all_some (cells_of read (spliced old s) chain))
    ∙ (ap (filter_map (λ (o : Option Cell). o)) (sym a ∙ (c ∙ b)) ∙ all_some (cells_of read old was))
