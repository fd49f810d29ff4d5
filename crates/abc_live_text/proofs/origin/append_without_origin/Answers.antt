use Rattle.std.proofs.Common.{◌<◌, length, map, arith}
use Rattle.std.proofs.lemmas.List.{length-map}
use Rattle.abc_live_text.specs.Row.{carried_row}
use Rattle.abc_live_text.proofs.OriginRows.{free_next, map_at}
use Rattle.abc_live_text.proofs.origin.append_without_origin.Goals as goal

pub loop-i-preserved : goal.loop-i-preserved
loop-i-preserved g c =
    let inside : c.loop-i.i < length c.args.rows.now.items = let a = c.loop-i-test.true in let b = c.requires.inside in omega arith in
    let long : c.loop-i.i < length (map carried_row c.args.rows.now.items) = let n = length-map c.args.rows.now.items carried_row in omega (arith, n, inside) in
    record {
      placed_rows = rw (c.in_ok-push.ensures.items, c.in_ok-row.ensures)
          (free_next c.args.placed_rows.now.items c.loop-i.placed_rows.items
          (map carried_row c.args.rows.now.items) c.args.from c.loop-i.i
          (carried_row c.item_at.result.now) c.loop-i.invariant.placed_rows c.loop-i.auto.i long (map_at carried_row c.args.rows.now.items c.loop-i.i c.item_at.result.now c.item_at.ensures inside));
    }
