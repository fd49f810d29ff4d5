use Rattle.abc_lines.specs.Text.{spliced}
use Rattle.abc_live_cost.specs.Spot.{spots_of}
use Rattle.abc_live_cost.specs.FreshCells.{is_untouched}
use Rattle.abc_live_cost.specs.Layout.{layout_of, tune_chains}
use Rattle.abc_live_index.proofs.OutputReuse.{items_suffice, made_least}
use Rattle.abc_live_index.proofs.laws.reused_outputs_suffice.Goals as goal

pub returns : goal.returns
returns g c = record {
  items = λ rules olds chains reused_tunes all. items_suffice rules olds chains reused_tunes all;
  touched = λ steps rules text s reused_tunes all.
      let new = layout_of steps rules (spliced text s) in
      made_least (λ tune. is_untouched steps rules.cells (layout_of steps rules text) s (spots_of steps rules.cells (spliced text s) tune)) (tune_chains 1 new.opening new.tunes) reused_tunes all;
}
