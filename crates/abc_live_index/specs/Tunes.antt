-- The tunes that lie among some lines of a text, by their chains, and their faults. Not in ABC 2.1.
use Rattle.std.specs.Prelude.{◌≡◌, ℕ, ◌+◌, ◌-◌, ◌≤◌, List, [], ◌∷◌, ◌++◌, map, take, drop, length, All, Option, Some}
use Rattle.std.specs.List.{AllZip, flat_map, sum_by}
use Rattle.abc_book.specs.declared.block.Block.{Block}
use Rattle.abc_fold.specs.Chain.{ChainView}
use Rattle.abc_fold.specs.Steps.{Steps, items_from}
use Rattle.abc_lines.specs.Text.{Text}
use Rattle.abc_live_index.specs.declared.output.Output.{Output}
use Rattle.abc_live_index.specs.Output.{counts_of, output_in, placed_from}
use Rattle.abc_live_cost.specs.OldItems.{IsChainOf}
use Rattle.abc_tune_compiler.specs.Book.{header_faults}
use Rattle.abc_tune_compiler.specs.Rules.{Rules}
use Rattle.abc_tune_compiler.specs.Tune.{Tune, fault_of_tune, faults_along, lines_in, tune_of}
use Rattle.abc_tune_compiler.specs.declared.fault.Fault.{Fault}

-- A place in a text, after `before` earlier lines are deleted.
abbrev pub lowered_place : ℕ → Block → Block
lowered_place before place = record { kind = place.kind; from = place.from - before; to = place.to - before }

-- A place of a text lies among `count` lines at index `before`.
pub record LiesAmong (before count : ℕ) (place : Block) : Type 0 where
  pub following : before ≤ place.from
  pub order : place.from ≤ place.to
  pub within : place.to ≤ before + count

-- Lines of a text that follow one another, how many are before them, and the state in which the file header leaves its
-- last cell, if there is one.
pub record LineRun (State : Type 0) : Type 0 where
  pub left : Option State
  pub before : ℕ
  pub lines : Text

abbrev pub line_run : {State : Type 0} → Option State → ℕ → Text → LineRun State
line_run left before lines = record { left = left; before = before; lines = lines }

-- A chain gives what the definitions give along the lines of a place, which lies among these, begun after the file
-- header.
pub record IsTuneAt {State Cell Items Defaults : Type 0} (steps : Steps State Cell Items)
    (rules : Rules State Cell Items Defaults) (run : LineRun State) (chain : ChainView State Cell Items)
    (place : Block) : Type 0 where
  pub lies : LiesAmong run.before (length run.lines) place
  pub items : chain.items ≡ items_from steps (rules.tune run.left)
      (flat_map rules.cells (lines_in run.lines (lowered_place run.before place)))

-- How many cells each line of a place has.
abbrev pub counts_in : ℕ → List ℕ → Block → List ℕ
counts_in before counts place = take (place.to - before - (place.from - before)) (drop (place.from - before) counts)

-- A place lies among the lines at index `before`, which have `counts` cells, and a chain has the cells and the items of
-- each.
pub record HasCells {State Cell Items : Type 0} (before : ℕ) (counts : List ℕ) (chain : ChainView State Cell Items)
    (place : Block) : Type 0 where
  pub lies : LiesAmong before (length counts) place
  pub shape : length chain.items ≡ length chain.cells
  pub all : sum_by (λ count. count) (counts_in before counts place) ≤ length chain.cells

-- The faults of the cells of a chain, each at its line; the lines of the place have `counts` cells.
abbrev pub cell_faults_by : {State Cell Items Defaults : Type 0} → Rules State Cell Items Defaults → ℕ → List ℕ
    → ChainView State Cell Items → Block → List Fault
cell_faults_by rules before counts chain place =
    faults_along rules.faults (placed_from (place.from + 1) (counts_in before counts place) chain.items)

-- The faults of the tune of a chain: those as a whole, and those of its cells.
abbrev pub tune_faults_by : {State Cell Items Defaults : Type 0} → Rules State Cell Items Defaults → ℕ → List ℕ
    → ChainView State Cell Items → Block → List Fault
tune_faults_by rules before counts chain place =
    map (fault_of_tune (place.from + 1)) (output_in rules chain).built.faults ++ cell_faults_by rules before counts chain place

-- The faults of the tunes of chains, each with its place.
abbrev pub faults_by : {State Cell Items Defaults : Type 0} → Rules State Cell Items Defaults → ℕ → List ℕ
    → List (ChainView State Cell Items) → List Block → List Fault
faults_by rules before counts [] places = []
faults_by rules before counts (chain ∷ chains) [] = []
faults_by rules before counts (chain ∷ chains) (place ∷ places) = tune_faults_by rules before counts chain place
    ++ faults_by rules before counts chains places

-- How many cells each of `count` lines of a text at index `before` has.
abbrev pub counts_among : {Cell : Type 0} → (List ℕ → List Cell) → Text → ℕ → ℕ → List ℕ
counts_among read text before count = take count (drop before (counts_of read text))

-- The faults of tunes.
abbrev pub faults_of_tunes : List Tune → List Fault
faults_of_tunes tunes = flat_map (λ tune. tune.faults) tunes

-- A chain that is the fold over the lines of a place has the cells of these lines.
abbrev pub CellsFollow : Type 0 → Type 0 → Type 0 → Type 0
CellsFollow State Cell Items =
    (steps : Steps State Cell Items) (read : List ℕ → List Cell) (opening : State) (text : Text) (before count : ℕ)
    (chain : ChainView State Cell Items) (place : Block)
    → IsChainOf steps read opening text chain place → LiesAmong before count place → before + count ≤ length text
    → HasCells before (counts_among read text before count) chain place

-- The number, the title and the bytes of an output are those of a tune.
pub record OutputAgrees (output : Output) (tune : Tune) : Type 0 where
  pub number : output.number ≡ tune.number
  pub title : output.title ≡ tune.title
  pub bytes : output.built.bytes ≡ tune.bytes

-- A chain gives what the definition's tune of its place has.
abbrev pub OutputFollows : Type 0 → Type 0 → Type 0 → Type 0 → Type 0
OutputFollows State Cell Items Defaults =
    (steps : Steps State Cell Items) (rules : Rules State Cell Items Defaults) (opening : State) (text : Text)
    (chain : ChainView State Cell Items) (place : Block)
    → IsChainOf steps rules.cells opening text chain place
    → OutputAgrees (output_in rules chain) (tune_of steps.next steps.gives rules opening text place)

-- The faults of chains are those of their tunes by definition.
abbrev pub FaultsFollow : Type 0 → Type 0 → Type 0 → Type 0 → Type 0
FaultsFollow State Cell Items Defaults =
    (steps : Steps State Cell Items) (rules : Rules State Cell Items Defaults) (opening : State) (text : Text)
    (before count : ℕ) (chains : List (ChainView State Cell Items)) (places : List Block)
    → AllZip (IsChainOf steps rules.cells opening text) chains places → All (LiesAmong before count) places
    → faults_by rules before (counts_among rules.cells text before count) chains places
    ≡ faults_of_tunes (map (tune_of steps.next steps.gives rules opening text) places)

-- The faults of a file header's chain are those of the file header by definition.
abbrev pub HeaderFollows : Type 0 → Type 0 → Type 0 → Type 0 → Type 0
HeaderFollows State Cell Items Defaults =
    (steps : Steps State Cell Items) (rules : Rules State Cell Items Defaults) (text : Text) (before count : ℕ)
    (chain : ChainView State Cell Items) (place : Block)
    → IsChainOf steps rules.cells rules.header text chain place → LiesAmong before count place
    → cell_faults_by rules before (counts_among rules.cells text before count) chain place
    ≡ header_faults steps.next steps.gives rules text (Some place)
