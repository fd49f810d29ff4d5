use Rattle.abc_live_text.proofs.OriginRows.{copy_next}
use Rattle.abc_live_text.proofs.part_patches.append_shares.Goals as goal

pub loop-i-preserved : goal.loop-i-preserved
loop-i-preserved g c = record {
  made = rw (c.in_ok-push.ensures.items, c.in_ok-chain.ensures)
      (copy_next c.args.chains.now.items c.loop-i.chains.items c.args.more.now c.loop-i.i c.index-more-i.result c.loop-i.invariant.made c.index-more-i.is c.loop-i-test.true);
}
