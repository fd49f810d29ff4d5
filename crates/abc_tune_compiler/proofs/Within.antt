-- The faults of a tune are in its lines.
use Rattle.std.proofs.Common.{ℕ, ◌+◌, ◌≤◌, List, [], ◌∷◌, length, map, arith}
use Rattle.std.specs.Prelude.{All}
use Rattle.std.proofs.lemmas.List.Elements.{All-nil, All-cons, All-head, All-tail, All-append}
use Rattle.abc_fields.specs.declared.fault_code.FaultCode.{FaultCode}
use Rattle.abc_lines.specs.Text.{Text}
use Rattle.abc_tune_compiler.specs.Laws.{IsBetweenLines, FaultsInLines}
use Rattle.abc_tune_compiler.specs.Placed.{Placed, placed_at, placed_values, cells_from, items_along}
use Rattle.abc_tune_compiler.specs.Rules.{Rules}
use Rattle.abc_tune_compiler.specs.Tune.{fault_in, fault_of_tune, faults_along, tune_from}
use Rattle.abc_tune_compiler.specs.declared.fault.Fault.{Fault}

module _ (low high : ℕ) where
  -- values in one of these lines
  abbrev Between : {A : Type 0} → Placed A → Type 0
  Between one = (low ≤ one.line) × (one.line ≤ high)

  of_line : {A : Type 0} (n : ℕ) → low ≤ n → n ≤ high → (all : List A) → All Between (map (placed_at n) all)
  of_line n above below [] = All-nil Between
  of_line n above below (one ∷ all) = All-cons Between (placed_at n one) (map (placed_at n) all) (above, below) (of_line n above below all)

  of_lines : {Cell : Type 0} (cells : List ℕ → List Cell) (n : ℕ) (text : Text) → low ≤ n → n + length text ≤ high + 1 → All Between (cells_from cells n text)
  of_lines cells n [] above inside = All-nil Between
  of_lines cells n (line ∷ text) above inside = All-append Between (map (placed_at n) (cells line)) (cells_from cells (n + 1) text) (of_line n above
      (omega (arith, inside)) (cells line)) (of_lines cells (n + 1) text (omega (arith, above)) (omega (arith, inside)))

  of_cells : {State Cell Items : Type 0} (next : State → Cell → State) (gives : State → Cell → Items) (opening : State) (cells : List (Placed Cell))
      → All Between cells → All Between (items_along next gives opening cells)
  of_cells next gives opening [] within = All-nil Between
  of_cells next gives opening (cell ∷ cells) within = All-cons Between (placed_at cell.line (gives opening cell.here)) (items_along next gives (next opening cell.here)
      cells) (All-head Between cell cells within)
      (of_cells next gives (next opening cell.here) cells (All-tail Between cell cells within))

  in_line : (n : ℕ) → low ≤ n → n ≤ high → (found : List (ℕ × FaultCode)) → All (IsBetweenLines low high) (map (fault_in n) found)
  in_line n above below [] = All-nil (IsBetweenLines low high)
  in_line n above below (fault ∷ found) = All-cons (IsBetweenLines low high) (fault_in n fault) (map (fault_in n) found) (above, below) (in_line n above below found)

  of_tune : (n : ℕ) → low ≤ n → n ≤ high → (codes : List FaultCode) → All (IsBetweenLines low high) (map (fault_of_tune n) codes)
  of_tune n above below [] = All-nil (IsBetweenLines low high)
  of_tune n above below (code ∷ codes) = All-cons (IsBetweenLines low high) (fault_of_tune n code) (map (fault_of_tune n) codes) (above, below) (of_tune n above below codes)

  of_items : {Items : Type 0} (faults : Items → List (ℕ × FaultCode)) (items : List (Placed Items)) → All Between items → All (IsBetweenLines low high) (faults_along faults items)
  of_items faults [] within = All-nil (IsBetweenLines low high)
  of_items faults (one ∷ items) within =
      let here = All-head Between one items within in
      All-append (IsBetweenLines low high) (map (fault_in one.line) (faults one.here)) (faults_along faults items) (in_line one.line here.0 here.1 (faults one.here))
      (of_items faults items (All-tail Between one items within))

  -- those of a tune whose lines these are
  of_tune_between : {State Cell Items Defaults : Type 0} (next : State → Cell → State) (gives : State → Cell → Items)
      (rules : Rules State Cell Items Defaults) (first : ℕ) (opening : State) (text : Text)
      → low ≤ first → first ≤ high → first + length text ≤ high + 1
      → All (IsBetweenLines low high) (tune_from rules first (items_along next gives opening (cells_from rules.cells first text))).faults
  of_tune_between next gives rules first opening text above below inside =
      let cells = cells_from rules.cells first text in
      let items = items_along next gives opening cells in
      All-append (IsBetweenLines low high) (map (fault_of_tune first) (rules.build_faults (placed_values items)))
      (faults_along rules.faults items) (of_tune first above below (rules.build_faults (placed_values items)))
      (of_items rules.faults items (of_cells next gives opening cells (of_lines rules.cells first text above inside)))

pub faults_in_lines : {State Cell Items Defaults : Type 0} → FaultsInLines State Cell Items Defaults
faults_in_lines next gives rules first opening line following = of_tune_between first (first + length following) next gives rules first opening (line ∷ following) (omega arith) (omega
    arith) (omega arith)

-- none is below the last line, also if there are no lines
pub no_fault_below : {State Cell Items Defaults : Type 0} (next : State → Cell → State) (gives : State → Cell → Items)
    (rules : Rules State Cell Items Defaults) (first : ℕ) (opening : State) (text : Text) → All (λ (fault : Fault). fault.line ≤ first + length text) (tune_from rules first
    (items_along next gives opening (cells_from rules.cells first text))).faults
no_fault_below next gives rules first opening text =
    let between = of_tune_between first (first + length text) next gives rules first opening text (omega arith) (omega arith) (omega arith) in
    λ k d inside. (between k d inside).1
