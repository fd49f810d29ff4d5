-- What a chain gives, placed in the lines of its cells, is what the definitions give along them.
use Rattle.std.proofs.Common.{◌≡◌, ℕ, suc, ◌+◌, ◌-◌, ◌≤◌, List, [], ◌∷◌, ◌++◌, length, take, drop, map, flat_map, Some, refl, sym}
use Rattle.std.proofs.Common.{ap, ◌∙◌, arith, length-append}
use Rattle.std.specs.List.{AllZip, sum_by}
use Rattle.std.specs.Prelude.{All}
use Rattle.std.proofs.lemmas.List.{drop-map, length-map, map-append, take-map}
use Rattle.std.proofs.lemmas.List.Elements.{All-head, All-tail}
use Rattle.std.proofs.lemmas.List.Sums.{sum_by-cons}
use Rattle.std.proofs.Math.Seq.{take-append_seam, drop-append_seam}
use Rattle.abc_book.specs.declared.block.Block.{Block}
use Rattle.abc_fold.specs.Chain.{ChainView}
use Rattle.abc_fold.specs.Steps.{Steps, items_from}
use Rattle.abc_lines.specs.Text.{Text}
use Rattle.abc_live_index.specs.Output.{counts_of, output_in, placed_from}
use Rattle.abc_live_index.specs.Tunes.{HasCells, LiesAmong, OutputAgrees, cell_faults_by, counts_among, counts_in, faults_by}
use Rattle.abc_live_index.specs.Tunes.{faults_of_tunes, tune_faults_by}
use Rattle.abc_live_cost.specs.OldItems.{IsChainOf}
use Rattle.abc_live_index.proofs.OutputPlaces.{among, among_inside}
use Rattle.abc_tune_compiler.specs.Book.{header_faults}
use Rattle.abc_tune_compiler.specs.Placed.{Placed, cells_from, items_along, placed_at, placed_values}
use Rattle.abc_tune_compiler.specs.Rules.{Rules}
use Rattle.abc_tune_compiler.specs.Tune.{fault_of_tune, faults_along, first_of, lines_in, tune_of}

-- the counts of a place's lines
counts_there : {Cell : Type 0} (read : List ℕ → List Cell) (text : Text) (before count : ℕ) (place : Block) → LiesAmong before count place
    → counts_in before (counts_among read text before count) place ≡ counts_of read (lines_in text place)
counts_there read text before count place lies =
    among (counts_of read text) before count place.from place.to lies.following lies.order lies.within
    ∙ ap (take (place.to - place.from)) (drop-map (λ line. length (read line)) place.from text)
    ∙ take-map (λ line. length (read line)) (place.to - place.from) (drop place.from text)

-- as many as there are cells
pub counts_sum : {Cell : Type 0} (read : List ℕ → List Cell) (lines : Text) → sum_by (λ count. count) (counts_of read lines) ≡ length (flat_map read lines)
counts_sum read [] = refl
counts_sum read (line ∷ lines) =
    sum_by-cons (λ (count : ℕ). count) (length (read line)) (counts_of read lines) ∙ ap (λ n. length (read line) + n) (counts_sum read lines) ∙ sym (length-append (read line) (flat_map read lines))

module _ {State Cell Items : Type 0} (steps : Steps State Cell Items) where
  -- the state after cells, without their places
  abbrev state_after : State → List Cell → State
  state_after state [] = state
  state_after state (cell ∷ cells) = state_after (steps.next state cell) cells

  -- there is an item for each cell
  pub given_each : (state : State) (cells : List Cell) → length (items_from steps state cells) ≡ length cells
  given_each state [] = refl
  given_each state (cell ∷ cells) = ap suc (given_each (steps.next state cell) cells)

  items_append : (state : State) (cells others : List Cell) → items_from steps state (cells ++ others) ≡ items_from steps state cells ++ items_from steps (state_after state cells) others
  items_append state [] others = refl
  items_append state (cell ∷ cells) others = ap (λ l. steps.gives state cell ∷ l) (items_append (steps.next state cell) cells others)

  along_append : (line : ℕ) (state : State) (cells : List Cell) (others : List (Placed Cell))
      → items_along steps.next steps.gives state (map (placed_at line) cells ++ others)
      ≡ map (placed_at line) (items_from steps state cells) ++ items_along steps.next steps.gives (state_after state cells) others
  along_append line state [] others = refl
  along_append line state (cell ∷ cells) others = ap (λ l. placed_at line (steps.gives state cell) ∷ l) (along_append line (steps.next state cell) cells others)

  -- items of a fold, placed by how many cells each line has
  pub placed_along : (read : List ℕ → List Cell) (line : ℕ) (state : State) (lines : Text)
      → placed_from line (counts_of read lines) (items_from steps state (flat_map read lines)) ≡ items_along steps.next steps.gives state (cells_from read line lines)
  placed_along read line state [] = refl
  placed_along read line state (bytes ∷ lines) =
      let cells = read bytes in
      let rest = flat_map read lines in
      let following = state_after state cells in
      let split = items_append state cells rest in
      let own : take (length cells) (items_from steps state (cells ++ rest)) ≡ items_from steps state cells =
      ap (take (length cells)) split ∙ ap (λ n. take n (items_from steps state cells ++ items_from steps following rest))
      (sym (given_each state cells)) ∙ take-append_seam (items_from steps state cells) (items_from steps following rest) in
      let others : drop (length cells) (items_from steps state (cells ++ rest)) ≡ items_from steps following rest =
      ap (drop (length cells)) split ∙ ap (λ n. drop n (items_from steps state cells ++ items_from steps following rest))
      (sym (given_each state cells)) ∙ drop-append_seam (items_from steps state cells) (items_from steps following rest) in
      ap (λ l. map (placed_at line) l ++ placed_from (line + 1) (counts_of read lines) (drop (length cells) (items_from steps state (cells ++ rest)))) own
      ∙ ap (λ l. map (placed_at line) (items_from steps state cells) ++ placed_from (line + 1) (counts_of read lines) l) others
      ∙ ap (λ l. map (placed_at line) (items_from steps state cells) ++ l) (placed_along read (line + 1) following lines)
      ∙ sym (along_append line state cells (cells_from read (line + 1) lines))

  things_at : (line : ℕ) (items : List Items) → placed_values (map (placed_at line) items) ≡ items
  things_at line [] = refl
  things_at line (one ∷ items) = ap (λ l. one ∷ l) (things_at line items)

  -- and without their places
  things_along : (read : List ℕ → List Cell) (line : ℕ) (state : State) (lines : Text)
      → placed_values (items_along steps.next steps.gives state (cells_from read line lines)) ≡ items_from steps state (flat_map read lines)
  things_along read line state [] = refl
  things_along read line state (bytes ∷ lines) =
      let cells = read bytes in
      let following = state_after state cells in
      let rest = items_along steps.next steps.gives following (cells_from read (line + 1) lines) in
      ap placed_values (along_append line state cells (cells_from read (line + 1) lines))
      ∙ map-append (λ (one : Placed Items). one.here) (map (placed_at line) (items_from steps state cells)) rest
      ∙ ap (λ l. l ++ placed_values rest) (things_at line (items_from steps state cells))
      ∙ ap (λ l. items_from steps state cells ++ l) (things_along read (line + 1) following lines)
      ∙ sym (items_append state cells (flat_map read lines))

  module _ (read : List ℕ → List Cell) (opening : State) (text : Text) (chain : ChainView State Cell Items) (place : Block) (is : IsChainOf steps read opening text chain place) where
    items_are : chain.items ≡ items_from steps opening (flat_map read (lines_in text place))
    items_are = is.folds.items ∙ ap (items_from steps opening) is.cells

    things_there : (line : ℕ) → chain.items ≡ placed_values (items_along steps.next steps.gives opening (cells_from read line (lines_in text place)))
    things_there line = items_are ∙ sym (things_along read line opening (lines_in text place))

    module _ (before count : ℕ) (lies : LiesAmong before count place) where
      -- the items of a chain in the lines of its place
      placed_there : (line : ℕ) → placed_from line (counts_in before (counts_among read text before count) place) chain.items
          ≡ items_along steps.next steps.gives opening (cells_from read line (lines_in text place))
      placed_there line =
          ap (λ counts. placed_from line counts chain.items) (counts_there read text before count place lies)
          ∙ ap (placed_from line (counts_of read (lines_in text place))) items_are
          ∙ placed_along read line opening (lines_in text place)

      pub has_cells : before + count ≤ length text → HasCells before (counts_among read text before count) chain place
      has_cells inside =
          let many : length (counts_among read text before count) ≡ count = among_inside (counts_of read text) before count (omega (arith, inside, length-map text (λ line. length (read line)))) in
          let own : sum_by (λ count. count) (counts_in before (counts_among read text before count) place) ≡ length chain.cells =
          ap (sum_by (λ (count : ℕ). count)) (counts_there read text before count place lies) ∙ counts_sum read (lines_in text place) ∙ sym (ap length is.cells) in
          let within = lies.within in
          record {
            lies = record { following = lies.following; order = lies.order; within = omega (arith, many, within) };
            shape = ap length is.folds.items ∙ given_each opening chain.cells;
            all = omega (arith, own);
          }

  module _ {Defaults : Type 0} (rules : Rules State Cell Items Defaults) (opening : State) (text : Text) where
    -- what the chain of a place gives at any place of its lines
    pub output_follows : (chain : ChainView State Cell Items) (place : Block) → IsChainOf steps rules.cells opening text chain place
        → OutputAgrees (output_in rules chain) (tune_of steps.next steps.gives rules opening text place)
    unfolding tune_of
    output_follows chain place is =
        let same = things_there rules.cells opening text chain place is (place.from + 1) in
        record {
          number = ap (first_of rules.number 0) same;
          title = ap (first_of rules.title []) same;
          bytes = ap rules.bytes same;
        }

    -- the faults of its cells
    pub cells_fault : (before count : ℕ) (chain : ChainView State Cell Items) (place : Block) → IsChainOf steps rules.cells opening text chain place → LiesAmong before count place
        → cell_faults_by rules before (counts_among rules.cells text before count) chain place ≡ faults_along rules.faults
        (items_along steps.next steps.gives opening (cells_from rules.cells (place.from + 1) (lines_in text place)))
    cells_fault before count chain place is lies = ap (faults_along rules.faults) (placed_there rules.cells opening text chain place is before count lies (place.from + 1))

    -- and those of the tune as a whole
    tune_faults : (before count : ℕ) (chain : ChainView State Cell Items) (place : Block) → IsChainOf steps rules.cells opening text chain place → LiesAmong before count place
        → tune_faults_by rules before (counts_among rules.cells text before count) chain place ≡ (tune_of steps.next steps.gives rules opening text place).faults
    unfolding tune_of
    tune_faults before count chain place is lies =
        ap (λ items. map (fault_of_tune (place.from + 1)) (rules.build_faults items) ++ cell_faults_by rules before
        (counts_among rules.cells text before count) chain place) (things_there rules.cells opening text chain place is (place.from + 1))
        ∙ ap (λ faults. map (fault_of_tune (place.from + 1))
        (rules.build_faults (placed_values (items_along steps.next steps.gives opening
        (cells_from rules.cells (place.from + 1) (lines_in text place))))) ++ faults) (cells_fault before count chain place is lies)

    -- those of all tunes
    pub faults_follow : (before count : ℕ) (chains : List (ChainView State Cell Items)) (places : List Block)
        → AllZip (IsChainOf steps rules.cells opening text) chains places → All (LiesAmong before count) places
        → faults_by rules before (counts_among rules.cells text before count) chains places ≡ faults_of_tunes (map (tune_of steps.next steps.gives rules opening text) places)
    faults_follow before count [] [] all lie = refl
    faults_follow before count [] (place ∷ places) all lie = absurd all
    faults_follow before count (chain ∷ chains) [] all lie = absurd all
    faults_follow before count (chain ∷ chains) (place ∷ places) all lie =
        ap (λ faults. faults ++ faults_by rules before (counts_among rules.cells text before count) chains places)
        (tune_faults before count chain place all.0 (All-head (LiesAmong before count) place places lie))
        ∙ ap (λ faults. (tune_of steps.next steps.gives rules opening text place).faults ++ faults)
        (faults_follow before count chains places all.1 (All-tail (LiesAmong before count) place places lie))

    pub zipped_cells : (before count : ℕ) (chains : List (ChainView State Cell Items)) (places : List Block)
        → AllZip (IsChainOf steps rules.cells opening text) chains places → All (LiesAmong before count) places → before + count ≤ length text
        → AllZip (HasCells before (counts_among rules.cells text before count)) chains places
    zipped_cells before count [] [] all lie inside = tt
    zipped_cells before count [] (place ∷ places) all lie inside = absurd all
    zipped_cells before count (chain ∷ chains) [] all lie inside = absurd all
    zipped_cells before count (chain ∷ chains) (place ∷ places) all lie inside = (
      has_cells rules.cells opening text chain place all.0 before count (All-head (LiesAmong before count) place places lie) inside,
      zipped_cells before count chains places all.1 (All-tail (LiesAmong before count) place places lie) inside,
    )

  -- the faults of a file header
  pub header_follows : {Defaults : Type 0} (rules : Rules State Cell Items Defaults) (text : Text) (before count : ℕ)
      (chain : ChainView State Cell Items) (place : Block) → IsChainOf steps rules.cells rules.header text chain place → LiesAmong before count place
      → cell_faults_by rules before (counts_among rules.cells text before count) chain place ≡ header_faults steps.next steps.gives rules text (Some place)
  header_follows rules text before count chain place is lies = cells_fault rules rules.header text before count chain place is lies
