use Rattle.abc_live_text.specs.Row.{carried_row}
use Rattle.abc_live_text.proofs.OriginRows.{map_more}
use Rattle.abc_live_text.proofs.new_parts.append_new.Goals as goal

pub loop-i-preserved : goal.loop-i-preserved
loop-i-preserved g c = record {
  made = rw (c.in_ok-push.ensures.items, c.in_ok-row.ensures)
      (map_more carried_row c.args.rows.now.items c.loop-i.rows.items c.args.new.now c.loop-i.i c.index-new-i.result c.loop-i.invariant.made c.index-new-i.is c.loop-i-test.true);
}
