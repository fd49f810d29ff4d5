use Rattle.abc_tune.proofs.WholeFaults.{out_more}
use Rattle.abc_tune.proofs.whole_faults.opens_out_of_range.Goals as goal

pub loop-cell-preserved : goal.loop-cell-preserved
loop-cell-preserved c =
    out_more c.args.cells.now c.loop-cell.cell-index c.loop-cell.out_of_range c.out_after_items-out_of_range.result
    c.cell-item.result c.items.result.now _ c.loop-cell-test.true c.cell-item.is c.items.ensures.value c.out_after_items-out_of_range.ensures c.loop-cell.invariant
