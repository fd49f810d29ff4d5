-- The compiler of ABC, by definition.
use Rattle.std.specs.Prelude.{ℕ, List, [], ◌∷◌, Option, Some, None}
use Rattle.std.specs.Option.{option_or}
use Rattle.abc_bars.specs.Titles.{title_said}
use Rattle.abc_bars_header.specs.declared.defaults.Defaults.{Defaults}
use Rattle.abc_bars_body.specs.declared.entry.Entry.{Entry}
use Rattle.abc_bars_body.specs.declared.entry.Entry.TheVariants as entries
use Rattle.abc_bars_items.specs.declared.item.Item.{Item}
use Rattle.abc_bars_items.specs.declared.item.Item.TheVariants as items
use Rattle.abc_bars_header.specs.Defaults.{no_defaults}
use Rattle.abc_bars_body.specs.Entry.{defaults_of, opening_after}
use Rattle.abc_bars_body.specs.SameEntry.{bar_steps}
use Rattle.abc_fold.specs.Steps.{Steps}
use Rattle.abc_bars_items.specs.Item.{Items}
use Rattle.abc_scan.specs.declared.spanned.Spanned.{Spanned}
use Rattle.abc_scan.specs.declared.token.TokenKind.{TokenKind}
use Rattle.abc_scan.specs.Cell.{cells_of}
use Rattle.abc_scan.specs.Line.{tokens_of}
use Rattle.abc_scan.specs.Class.{class_of}
use Rattle.abc_tune.specs.Built.{bytes_of, build_faults_of}
use Rattle.abc_tune_compiler.specs.Rules.{Rules}

-- The reference number of an item, if it is one. ABC 2.1 section 3.1.1.
abbrev pub number_of : Item → Option ℕ
number_of (items.Number number) = Some number
number_of _ = None

-- The first value that items have, if one has one.
abbrev pub first_value : {V : Type 0} → (Item → Option V) → List Item → Option V
first_value value_of [] = None
first_value value_of (item ∷ rest) = option_or (value_of item) (first_value value_of rest)

-- The cells of a line.
abbrev pub cells_in : List ℕ → List (List (Spanned TokenKind))
cells_in line = cells_of (tokens_of line)

-- The steps of the compiler's fold: those of the fold over bars, which are the look back along the cells.
abbrev pub steps_of_abc : Steps Entry (List (Spanned TokenKind)) Items
steps_of_abc = bar_steps

-- The definitions of the compiler of ABC, but for the steps of its fold.
abbrev pub rules_of_abc : Rules Entry (List (Spanned TokenKind)) Items Defaults
rules_of_abc = record {
  class = class_of;
  cells = cells_in;
  header = entries.FileHeader no_defaults;
  tune = opening_after;
  defaults = defaults_of;
  number = λ cell. first_value number_of cell.items;
  title = λ cell. first_value title_said cell.items;
  faults = λ cell. cell.faults;
  bytes = bytes_of;
  build_faults = build_faults_of;
}
