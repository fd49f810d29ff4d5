use Rattle.std.proofs.Common.{◌≡◌, drop}
use Rattle.abc_voices_sections.specs.EndingFields.{nothing_waits}
use Rattle.abc_voices_sections.specs.declared.ending_fields.EndingRegion.TheVariants.{Common}
use Rattle.abc_voices_sections.specs.ItemRuns.{runs_of, items_in}
use Rattle.abc_voices_sections.proofs.ending_fields.has_waiting_item.Given as goal

-- the rest says what all say
abbrev pub invariant-loop-item_run : goal.invariant-loop-item_run
invariant-loop-item_run g l = nothing_waits g.T.AsItem.item_of l.region (items_in (runs_of (drop l.item_run-index l.item_runs))) ≡ nothing_waits g.T.AsItem.item_of Common (items_in (runs_of l.item_runs))
