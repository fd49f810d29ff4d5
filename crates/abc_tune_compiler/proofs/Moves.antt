-- What a tune gives does not depend on its place.
use Rattle.std.proofs.Common.{◌≡◌, ℕ, ◌+◌, List, [], ◌∷◌, ◌++◌, map, refl, sym, ap, ◌∙◌, arith}
use Rattle.std.proofs.lemmas.List.{map-append}
use Rattle.abc_book.specs.Block.{blocks_of}
use Rattle.abc_fields.specs.declared.fault_code.FaultCode.{FaultCode}
use Rattle.abc_tune_compiler.specs.Book.{book_of}
use Rattle.abc_tune_compiler.specs.Laws.{placed_moved, fault_moved, tune_moved, CellsMove, ItemsMove, FaultsMove, TunesMove, NoLinesNoBook}
use Rattle.abc_tune_compiler.specs.Placed.{Placed, placed_at, placed_values, cells_from, items_along}
use Rattle.abc_tune_compiler.specs.Tune.{fault_in, fault_of_tune, faults_along, tune_from}
use Rattle.abc_tune_compiler.specs.Rules.{Rules}
use Rattle.abc_tune_compiler.specs.declared.fault.Fault.{Fault}

placed_line_moved : {Cell : Type 0} → (lines n : ℕ) (cells : List Cell) → map (placed_at (n + lines)) cells ≡ map (placed_moved lines) (map (placed_at n) cells)
placed_line_moved lines n [] = refl
placed_line_moved lines n (cell ∷ cells) = ap (λ l. placed_at (n + lines) cell ∷ l) (placed_line_moved lines n cells)

pub cells_move : {Cell : Type 0} → CellsMove Cell
cells_move cells lines n [] = refl
cells_move cells lines n (line ∷ text) =
    let here : n + lines + 1 ≡ n + 1 + lines = omega arith in
    let following = ap (λ k. cells_from cells k text) here ∙ cells_move cells lines (n + 1) text in
    ap (λ l. map (placed_at (n + lines)) (cells line) ++ l) following
    ∙ ap (λ l. l ++ map (placed_moved lines) (cells_from cells (n + 1) text)) (placed_line_moved lines n (cells line))
    ∙ sym (map-append (placed_moved lines) (map (placed_at n) (cells line)) (cells_from cells (n + 1) text))

pub items_move : {State Cell Items : Type 0} → ItemsMove State Cell Items
items_move next gives lines opening [] = refl
items_move next gives lines opening (cell ∷ cells) = ap (λ l. placed_at (cell.line + lines) (gives opening cell.here) ∷ l) (items_move next gives lines (next opening cell.here) cells)

in_line_moved : (lines n : ℕ) (found : List (ℕ × FaultCode)) → map (fault_in (n + lines)) found ≡ map (fault_moved lines) (map (fault_in n) found)
in_line_moved lines n [] = refl
in_line_moved lines n (fault ∷ found) = ap (λ l. fault_in (n + lines) fault ∷ l) (in_line_moved lines n found)

of_tune_moved : (lines n : ℕ) (codes : List FaultCode) → map (fault_of_tune (n + lines)) codes ≡ map (fault_moved lines) (map (fault_of_tune n) codes)
of_tune_moved lines n [] = refl
of_tune_moved lines n (code ∷ codes) = ap (λ l. fault_of_tune (n + lines) code ∷ l) (of_tune_moved lines n codes)

pub faults_move : {Items : Type 0} → FaultsMove Items
faults_move faults lines [] = refl
faults_move faults lines (one ∷ items) = ap (λ l. map (fault_in (one.line + lines)) (faults one.here) ++ l) (faults_move faults lines items) ∙ ap (λ l. l
    ++ map (fault_moved lines) (faults_along faults items)) (in_line_moved lines one.line (faults
    one.here)) ∙ sym (map-append (fault_moved lines) (map (fault_in one.line) (faults one.here)) (faults_along faults items))

things_moved : {Items : Type 0} → (lines : ℕ) (items : List (Placed Items)) → placed_values (map (placed_moved lines) items) ≡ placed_values items
things_moved lines [] = refl
things_moved lines (one ∷ items) = ap (λ l. one.here ∷ l) (things_moved lines items)

-- the faults of a tune of which these are the items
all_moved : {State Cell Items Defaults : Type 0} → (rules : Rules State Cell Items Defaults) (lines n : ℕ) (items : List (Placed Items))
    → map (fault_of_tune (n + lines)) (rules.build_faults (placed_values items)) ++ faults_along rules.faults
    (map (placed_moved lines) items) ≡ map (fault_moved lines) (map (fault_of_tune n) (rules.build_faults (placed_values items)) ++ faults_along rules.faults items)
all_moved rules lines n items =
    let codes = rules.build_faults (placed_values items) in
    ap (λ l. map (fault_of_tune (n + lines)) codes ++ l) (faults_move rules.faults lines items)
    ∙ ap (λ l. l ++ map (fault_moved lines) (faults_along rules.faults items)) (of_tune_moved lines n codes)
    ∙ sym (map-append (fault_moved lines) (map (fault_of_tune n) codes) (faults_along rules.faults items))

tune_from_moved : {State Cell Items Defaults : Type 0} → (rules : Rules State Cell Items Defaults) (lines n : ℕ)
    (items : List (Placed Items)) → tune_from rules (n + lines) (map (placed_moved lines) items) ≡ tune_moved lines (tune_from rules n items)
tune_from_moved rules lines n items = rw (things_moved lines items) (ap (λ (faults : List Fault). record (tune_from rules n items) { faults = faults })
    (all_moved rules lines n items))

pub tunes_move : {State Cell Items Defaults : Type 0} → TunesMove State Cell Items Defaults
tunes_move next gives rules lines n opening text = ap (λ cells. tune_from rules (n + lines) (items_along next gives opening cells)) (cells_move rules.cells lines n
    text) ∙ ap (tune_from rules (n + lines)) (items_move next gives lines opening (cells_from rules.cells n
    text)) ∙ tune_from_moved rules lines n (items_along next gives opening (cells_from rules.cells n text))

pub no_lines_no_book : {State Cell Items Defaults : Type 0} → NoLinesNoBook State Cell Items Defaults
unfolding book_of blocks_of
no_lines_no_book steps rules = refl
