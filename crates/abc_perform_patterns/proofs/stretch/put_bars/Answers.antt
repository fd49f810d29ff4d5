use Rattle.std.proofs.Common.{◌<◌, append_assoc}
use Rattle.abc_perform_patterns.specs.Stretch.{bars_in}
use Rattle.abc_perform_patterns.proofs.Bars.{next_bar}
use Rattle.abc_perform_patterns.proofs.stretch.put_bars.Goals as goal

pub loop-index-preserved : goal.loop-index-preserved
loop-index-preserved c =
    let below : c.loop-index.index < bars_in c.args.length.0 c.args.bar.0 = rw c.bars_in-bars.ensures at c.loop-index-test.true in
    let next = next_bar (bars_in c.args.length.0 c.args.bar.0) c.loop-index.index c.args.bar.0 c.args.length.0 c.args.spans.now below in
    let put = c.in_ok-put_bar.ensures {u = tt} in
    rw put (rw append_assoc (rw (← next) c.loop-index.invariant))
