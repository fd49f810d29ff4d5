use Rattle.std.proofs.lemmas.List.{get_or_default}
use Rattle.abc_live_text.specs.KeptText.{LiesAfter, block_after}
use Rattle.abc_live_text.proofs.OriginRows.{between_next, beyond_at}
use Rattle.abc_live_text.proofs.new_places.append_after.Goals as goal

pub block_after-requires-clause-beyond : goal.block_after-requires-clause-beyond
block_after-requires-clause-beyond c =
    beyond_at (LiesAfter c.args.stretch) c.args.old.now c.args.stretch.tunes.to c.loop-i.i _ c.requires.beyond c.loop-i.auto.i c.loop-i-test.true

pub loop-i-preserved : goal.loop-i-preserved
loop-i-preserved c = record {
  made = rw (c.in_ok-push.ensures.items, c.block_after.ensures)
      (between_next
      (block_after
      c.args.stretch) c.args.tunes.now.items c.loop-i.tunes.items c.args.old.now c.args.stretch.tunes.to c.loop-i.i _
      c.loop-i.invariant.made c.loop-i.auto.i c.loop-i-test.true (get_or_default c.args.old.now c.loop-i.i _ _ c.loop-i-test.true));
}
