-- The output of a tune, by its items, at any place in the text. Not in ABC 2.1.
use Rattle.std.specs.Prelude.{◌≡◌, ℕ, ◌+◌, ◌==◌, if◌then◌else◌, Bool, true, false, List, [], ◌∷◌, ◌++◌, length, map, take, drop}
use Rattle.std.specs.Prelude.{Option, Some, IfSome, slice_get}
use Rattle.abc_fold.specs.Chain.{ChainView}
use Rattle.abc_live_index.specs.declared.output.Output.{Output}
use Rattle.abc_tune_compiler.specs.Placed.{Placed, placed_at}
use Rattle.abc_tune_compiler.specs.Rules.{Rules}
use Rattle.abc_tune_compiler.specs.Tune.{first_of}

-- Whether one of the items of a tune has faults.
abbrev pub has_faults : {State Cell Items Defaults : Type 0} → Rules State Cell Items Defaults → List Items → Bool
has_faults rules [] = false
has_faults rules (one ∷ rest) = if length (rules.faults one) == 0 then has_faults rules rest else true

-- The output of the items of a tune: the first number and the first title count.
abbrev pub output_of : {State Cell Items Defaults : Type 0} → Rules State Cell Items Defaults → List Items → Output
output_of rules items = record {
  number = first_of rules.number 0 items;
  title = first_of rules.title [] items;
  built = record { bytes = rules.bytes items; faults = rules.build_faults items };
  faulty = has_faults rules items;
}

-- The output of the chain of a tune.
abbrev pub output_in : {State Cell Items Defaults : Type 0} → Rules State Cell Items Defaults → ChainView State Cell Items → Output
output_in rules chain = output_of rules chain.items

-- Things of lines that follow one another, the first with this number, by how many of them each line has.
abbrev pub placed_from : {A : Type 0} → ℕ → List ℕ → List A → List (Placed A)
placed_from line [] all = []
placed_from line (count ∷ counts) all = map (placed_at line) (take count all) ++ placed_from (line + 1) counts (drop count all)

-- How many cells each line has.
abbrev pub counts_of : {Cell : Type 0} → (List ℕ → List Cell) → List (List ℕ) → List ℕ
counts_of read lines = map (λ line. length (read line)) lines

-- If an old tune is named for a chain, its output is that of the chain.
abbrev pub ReusesOutput : {State Cell Items Defaults : Type 0} → Rules State Cell Items Defaults → List Output
    → ChainView State Cell Items → Option ℕ → Type 0
ReusesOutput rules outputs chain reused_tunes = IfSome reused_tunes (λ old. slice_get outputs old ≡ Some (output_in rules chain))
