-- Which tunes reuse the output of an old one, and how many are built. Not in ABC 2.1.
use Rattle.std.specs.Prelude.{ℕ, ◌≤◌, List, map, Option}
use Rattle.std.specs.List.{AllZip}
use Rattle.abc_fold.specs.Chain.{ChainView}
use Rattle.abc_fold.specs.Steps.{Steps}
use Rattle.abc_lines.specs.Text.{Splice, Text}
use Rattle.abc_live_index.specs.BuildCount.{built_count}
use Rattle.abc_live_index.specs.Output.{ReusesOutput, output_in}
use Rattle.abc_live_cost.specs.OldItems.{HasItemsOf, TakesUntouched}
use Rattle.abc_live_cost.specs.FreshCells.{touched_tunes_after}
use Rattle.abc_tune_compiler.specs.Rules.{Rules}

-- The output of an old chain may be reused if its items are the same.
abbrev pub ItemsSuffice : Type 0 → Type 0 → Type 0 → Type 0 → Type 0
ItemsSuffice State Cell Items Defaults =
    (rules : Rules State Cell Items Defaults) (olds chains : List (ChainView State Cell Items)) (reused_tunes : List (Option ℕ))
    → AllZip (HasItemsOf olds) chains reused_tunes → AllZip (ReusesOutput rules (map (output_in rules) olds)) chains reused_tunes

-- If each untouched tune of a text after a splice reuses the output of an old one, no more tunes are built than are
-- touched.
abbrev pub TouchedSuffice : Type 0 → Type 0 → Type 0 → Type 0 → Type 0
TouchedSuffice State Cell Items Defaults =
    (steps : Steps State Cell Items) (rules : Rules State Cell Items Defaults) (text : Text) (s : Splice)
    (reused_tunes : List (Option ℕ))
    → TakesUntouched steps rules text s reused_tunes → built_count reused_tunes ≤ touched_tunes_after steps rules text s
