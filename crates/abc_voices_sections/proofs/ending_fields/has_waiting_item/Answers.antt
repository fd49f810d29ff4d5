use Rattle.std.proofs.Common.{◌+◌, ◌∙◌, ap, sym, drop}
use Rattle.abc_voices_sections.specs.EndingFields.{nothing_waits}
use Rattle.abc_voices_sections.specs.ItemRuns.{runs_of, items_in}
use Rattle.abc_voices_sections.proofs.ItemRuns.{is_run_at, some_at_first, nothing_waits-here, nothing_waits-after}
use Rattle.abc_voices_sections.proofs.ending_fields.has_waiting_item.Goals as goal

pub bounds-item_run-0 : goal.bounds-item_run-0
bounds-item_run-0 g c =
    some_at_first g.T.AsItem.item_of c.item_run-item.result (is_run_at g.T.AsItem.item_of c.args.item_runs.now c.loop-item_run.item_run-index c.item_run-item.result c.requires c.loop-item_run-test.true c.item_run-item.is)

pub returns-then-waits : goal.returns-then-waits
returns-then-waits g c =
    sym (nothing_waits-here g.T.AsItem.item_of c.args.item_runs.now c.loop-item_run.item_run-index c.item_run-item.result c.index-item_run-0.result
    c.loop-item_run.region c.waits.result c.requires c.loop-item_run-test.true c.item_run-item.is c.waits.ensures c.if-waits.true)
    ∙ c.loop-item_run.invariant

pub loop-item_run-preserved : goal.loop-item_run-preserved
loop-item_run-preserved g c =
    ap (λ region. nothing_waits g.T.AsItem.item_of region (items_in (runs_of (drop (c.loop-item_run.item_run-index + 1) c.args.item_runs.now)))) c.after_mark-region.ensures
    ∙ sym (nothing_waits-after g.T.AsItem.item_of c.args.item_runs.now c.loop-item_run.item_run-index c.item_run-item.result c.index-item_run-0.result
    c.loop-item_run.region c.waits.result c.requires c.loop-item_run-test.true c.item_run-item.is c.waits.ensures c.if-waits.false)
    ∙ c.loop-item_run.invariant
