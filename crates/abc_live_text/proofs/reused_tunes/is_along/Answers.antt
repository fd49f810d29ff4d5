use Rattle.std.proofs.Common.{◌+◌, ◌<◌, ap, sym, drop, length, ◌∙◌, arith}
use Rattle.abc_live_text.specs.ReusedTunes.{is_along}
use Rattle.abc_live_text.proofs.WholeOldTunes.{next_row, step_far}
use Rattle.abc_live_text.proofs.reused_tunes.is_along.Goals as goal

pub returns-then-cells-count : goal.returns-then-cells-count
returns-then-cells-count g c =
    let row = c.row-item.result in
    let more = c.if-cells-count.true in
    let own = ap length c.cells-cells.ensures in
    let within = c.loop-row.invariant.inside in
    let far : c.args.count < c.loop-row.place + length row.cells = omega (arith, more, own, within) in
    sym (c.loop-row.invariant.same ∙ (ap (is_along c.args.source c.args.count c.loop-row.place)
    (next_row c.args.rows.now c.loop-row.row-index row c.row-item.is c.loop-row-test.true)
    ∙ step_far c.args.source c.args.count c.loop-row.place row (drop (c.loop-row.row-index + 1) c.args.rows.now) far))
