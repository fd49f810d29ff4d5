use Rattle.std.proofs.Common.{rules, ◌≡◌, ◌<◌, ◌+◌, length, map, arith, ap, ◌∙◌}
use Rattle.std.proofs.lemmas.List.{length-map}
use Rattle.abc_live_text.specs.Row.{carried_row}
use Rattle.abc_live_text.proofs.OriginRows.{block_next, count_next, map_at}
use Rattle.abc_live_text.proofs.origin.append_block.Goals as goal

pub loop-i-preserved : goal.loop-i-preserved
loop-i-preserved g c =
    let inside : c.loop-i.i < length c.args.rows.now.items = let a = c.loop-i-test.true in let b = c.requires.inside in omega arith in
    let rows = map carried_row c.args.rows.now.items in
    let long : c.loop-i.i < length (map carried_row c.args.rows.now.items) = let n = length-map c.args.rows.now.items carried_row in omega (arith, n, inside) in
    let row = carried_row c.item_at-row.result.now in
    let here = map_at carried_row c.args.rows.now.items c.loop-i.i c.item_at-row.result.now c.item_at-row.ensures inside in
    let count = ap length c.cells-cells.ensures in
    let both = count_next rows c.args.from c.loop-i.i row c.loop-i.first (length c.cells-cells.result.now) c.loop-i.invariant.count count c.loop-i.auto.i long here in
    let sum = c.checked_add.ensures in
    let is = c.in-Some.is in
    record {
      placed_rows = rw (c.in_ok-push.ensures.items, c.in_ok-row_there.ensures)
          (block_next c.args.source c.loop-i.first c.args.placed_rows.now.items c.loop-i.placed_rows.items rows c.args.from
          c.loop-i.i row c.loop-i.invariant.placed_rows c.loop-i.invariant.count c.loop-i.auto.i long here);
      count = (let next : c.in-Some.next ≡ c.loop-i.first + length c.cells-cells.result.now = search rules in next) ∙ both;
    }
