use Rattle.abc_voices_sections.proofs.ItemRuns.{items_more-at}
use Rattle.abc_voices_sections.proofs.play.items_at_places.Goals as goal

pub loop-place-preserved : goal.loop-place-preserved
loop-place-preserved g c =
    items_more-at c.args.item_runs.now c.args.places.now c.loop-place.place-index c.index-item_runs-place.result
    c.loop-place.items.items c.extend_from_slice.new.self.items c.requires c.loop-place-test.true c.loop-place.invariant c.in_ok-extend_from_slice.ensures.items
