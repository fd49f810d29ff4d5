-- What holds of every book.
use Rattle.std.specs.Prelude.{◌≡◌, ◌↔◌, ◌≤◌, ℕ, ◌+◌, List, [], ◌∷◌, map, length, All, Contains}
use Rattle.std.specs.List.Sorted.{IsStrictlySortedBy}
use Rattle.abc_fields.specs.declared.fault_code.FaultCode.{FaultCode}
use Rattle.abc_fold.specs.Steps.{Steps}
use Rattle.abc_lines.specs.Text.{Text}
use Rattle.abc_tune_compiler.specs.Book.{book_of, empty_book}
use Rattle.abc_tune_compiler.specs.Fault.{fault_cmp}
use Rattle.abc_tune_compiler.specs.Files.{file_at, files_from, first_file}
use Rattle.abc_tune_compiler.specs.Placed.{Placed, placed_at, cells_from, items_along}
use Rattle.abc_tune_compiler.specs.Rules.{Rules}
use Rattle.abc_tune_compiler.specs.Sort.{sort_dedup}
use Rattle.abc_tune_compiler.specs.Tune.{Tune, faults_along, tune_from}
use Rattle.abc_tune_compiler.specs.declared.fault.Fault.{Fault}

-- The file of a number is that of the first tune of the number that has one.
abbrev pub FirstOwner : Type 0
FirstOwner = (tunes : List Tune) (n : ℕ) → file_at (files_from [] tunes) n ≡ first_file tunes n

-- Sorting faults loses none and adds none.
abbrev pub NoFaultLost : Type 0
NoFaultLost = (faults : List Fault) (fault : Fault) → Contains (sort_dedup fault_cmp faults) fault ↔ Contains faults fault

-- Each fault is before all later ones in the order of faults, so none is there twice.
abbrev pub FaultsRise : Type 0
FaultsRise = (faults : List Fault) → IsStrictlySortedBy fault_cmp (sort_dedup fault_cmp faults)

-- A value in a line, moved down by a number of lines.
abbrev pub placed_moved : {A : Type 0} → ℕ → Placed A → Placed A
placed_moved lines one = placed_at (one.line + lines) one.here

-- A fault, moved down by a number of lines.
abbrev pub fault_moved : ℕ → Fault → Fault
fault_moved lines fault = record { line = fault.line + lines; column = fault.column; code = fault.code }

-- A tune, moved down by a number of lines.
abbrev pub tune_moved : ℕ → Tune → Tune
tune_moved lines tune = record {
  number = tune.number;
  title = tune.title;
  bytes = tune.bytes;
  faults = map (fault_moved lines) tune.faults;
}

-- The cells of lines further down are the same cells.
abbrev pub CellsMove : Type 0 → Type 0
CellsMove Cell =
    (cells : List ℕ → List Cell) (lines first : ℕ) (text : Text)
    → cells_from cells (first + lines) text ≡ map (placed_moved lines) (cells_from cells first text)

-- What a fold gives along cells does not depend on their place.
abbrev pub ItemsMove : Type 0 → Type 0 → Type 0 → Type 0
ItemsMove State Cell Items =
    (next : State → Cell → State) (gives : State → Cell → Items) (lines : ℕ) (opening : State) (cells : List (Placed Cell))
    → items_along next gives opening (map (placed_moved lines) cells)
    ≡ map (placed_moved lines) (items_along next gives opening cells)

-- Faults move with what gives them.
abbrev pub FaultsMove : Type 0 → Type 0
FaultsMove Items =
    (faults : Items → List (ℕ × FaultCode)) (lines : ℕ) (items : List (Placed Items))
    → faults_along faults (map (placed_moved lines) items) ≡ map (fault_moved lines) (faults_along faults items)

-- A tune further down gives the same number, title and bytes, and the same faults, moved down with it.
abbrev pub TunesMove : Type 0 → Type 0 → Type 0 → Type 0 → Type 0
TunesMove State Cell Items Defaults =
    (next : State → Cell → State) (gives : State → Cell → Items) (rules : Rules State Cell Items Defaults) (lines first : ℕ)
    (opening : State) (text : Text)
    → tune_from rules (first + lines) (items_along next gives opening (cells_from rules.cells (first + lines) text))
    ≡ tune_moved lines (tune_from rules first (items_along next gives opening (cells_from rules.cells first text)))

-- The line of a fault is one of those from one number to another.
abbrev pub IsBetweenLines : ℕ → ℕ → Fault → Type 0
IsBetweenLines low high fault = (low ≤ fault.line) × (fault.line ≤ high)

-- Each fault of a tune is in one of its lines.
abbrev pub FaultsInLines : Type 0 → Type 0 → Type 0 → Type 0 → Type 0
FaultsInLines State Cell Items Defaults =
    (next : State → Cell → State) (gives : State → Cell → Items) (rules : Rules State Cell Items Defaults) (first : ℕ)
    (opening : State) (line : List ℕ) (following : Text)
    → All (IsBetweenLines first (first + length following)) (tune_from rules first
    (items_along next gives opening (cells_from rules.cells first (line ∷ following)))).faults

-- A text without lines has an empty book.
abbrev pub NoLinesNoBook : Type 0 → Type 0 → Type 0 → Type 0 → Type 0
NoLinesNoBook State Cell Items Defaults =
    (steps : Steps State Cell Items) (rules : Rules State Cell Items Defaults)
    → book_of steps rules [] ≡ empty_book
