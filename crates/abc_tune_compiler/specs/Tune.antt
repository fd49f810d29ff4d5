-- What a tune of a text gives to the book.
use Rattle.std.specs.Prelude.{ℕ, ◌+◌, ◌-◌, List, [], ◌∷◌, ◌++◌, take, drop, map, Option, unwrap_or}
use Rattle.std.specs.List.{flat_map}
use Rattle.abc_book.specs.declared.block.Block.{Block}
use Rattle.abc_fields.specs.declared.fault_code.FaultCode.{FaultCode}
use Rattle.abc_lines.specs.Text.{Text}
use Rattle.abc_tune_compiler.specs.declared.fault.Fault.{Fault}
use Rattle.abc_tune_compiler.specs.Placed.{Placed, placed_values, cells_from, items_along}
use Rattle.abc_tune_compiler.specs.Rules.{Rules}

-- A tune, by what it gives to the book.
pub record Tune : Type 0 where
  -- the reference number, 0 if the tune has none
  pub number : ℕ
  -- the title's bytes, empty if the tune has none
  pub title : List ℕ
  -- the bytes of its file, if it has one
  pub bytes : Option (List ℕ)
  -- its faults, in the lines of the text, in no order
  pub faults : List Fault

-- The value of the first element that has one, or this other value if none has.
abbrev pub first_of : {A V : Type 0} → (A → Option V) → V → List A → V
first_of value_of otherwise [] = otherwise
first_of value_of otherwise (one ∷ rest) = unwrap_or (value_of one) (first_of value_of otherwise rest)

-- A fault in a line: its column, counted from 1, and its code.
abbrev pub fault_in : ℕ → ℕ × FaultCode → Fault
fault_in line (column, code) = record { line = line; column = column; code = code }

-- The place of a fault of a tune as a whole is the beginning of its first line.
abbrev pub fault_of_tune : ℕ → FaultCode → Fault
fault_of_tune line code = record { line = line; column = 1; code = code }

-- The faults of what cells give.
abbrev pub faults_along : {Items : Type 0} → (Items → List (ℕ × FaultCode)) → List (Placed Items) → List Fault
faults_along faults items = flat_map (λ one. map (fault_in one.line) (faults one.here)) items

-- The tune whose first line has this number, from what its cells give: its number and its title are the first that
-- a cell gives.
abbrev pub tune_from : {State Cell Items Defaults : Type 0} → Rules State Cell Items Defaults → ℕ → List (Placed Items) → Tune
tune_from rules line items = record {
  number = first_of rules.number 0 (placed_values items);
  title = first_of rules.title [] (placed_values items);
  bytes = rules.bytes (placed_values items);
  faults = map (fault_of_tune line) (rules.build_faults (placed_values items)) ++ faults_along rules.faults items;
}

-- The lines of a block.
abbrev pub lines_in : Text → Block → Text
lines_in text block = take (block.to - block.from) (drop block.from text)

-- The cells of a block, with the numbers of their lines.
abbrev pub cells_in : {State Cell Items Defaults : Type 0} → Rules State Cell Items Defaults → Text → Block → List (Placed Cell)
cells_in rules text block = cells_from rules.cells (block.from + 1) (lines_in text block)

-- The tune of a block, begun in this state.
unfoldable pub tune_of : {State Cell Items Defaults : Type 0} → (State → Cell → State) → (State → Cell → Items)
    → Rules State Cell Items Defaults → State → Text → Block → Tune
tune_of next gives rules opening text block =
    tune_from rules (block.from + 1) (items_along next gives opening (cells_in rules text block))
