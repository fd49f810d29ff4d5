use Rattle.std.proofs.Common.{◌-◌, ◌^◌}
use Rattle.abc_voices_sections.proofs.ItemRuns.{size_more}
use Rattle.abc_voices_sections.proofs.play.size_at.Goals as goal

pub loop-place-preserved : goal.loop-place-preserved
loop-place-preserved g c =
    size_more c.args.item_runs.now c.args.places.now c.loop-place.place-index c.index-item_runs-place.result c.loop-place.size
    c.saturating_add-size.result (2 ^ 64 - 1) c.requires c.loop-place-test.true c.loop-place.invariant c.saturating_add-size.ensures
