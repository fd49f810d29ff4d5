use Rattle.std.proofs.Common.{◌<◌, length, arith}
use Rattle.abc_live_text.proofs.OriginRows.{part_next}
use Rattle.abc_live_text.proofs.new_parts.append_rows.Goals as goal

pub loop-i-preserved : goal.loop-i-preserved
loop-i-preserved g c =
    let inside : c.loop-i.i < length c.args.more.now = let a = c.loop-i-test.true in let b = c.requires.inside in omega arith in
    record {
      made = rw (c.in_ok-push.ensures.items, c.in_ok-row.ensures)
          (part_next c.args.rows.now.items c.loop-i.rows.items c.args.more.now c.args.from c.loop-i.i c.index-more-i.result c.loop-i.invariant.made c.loop-i.auto.i inside c.index-more-i.is);
    }
