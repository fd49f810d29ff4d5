use Rattle.std.proofs.Common.{◌∙◌, arith}
use Rattle.abc_repeat.proofs.Copies.{copies_once, copies_none, copies_long, copies_more}
use Rattle.abc_repeat.proofs.order_play.put_copies.Goals as goal

pub loop-init : goal.loop-init
loop-init c = copies_once c.args.begin c.args.sections.now.items

pub extend_from_within-requires-clause-in_bounds : goal.extend_from_within-requires-clause-in_bounds
extend_from_within-requires-clause-in_bounds c =
    let long = copies_long c.args.begin c.loop.counter c.args.sections.now.items c.loop.sections.items (omega arith) c.loop.invariant in
    omega (arith, long, c.len-end.ensures, c.loop.sections.ok.0, c.args.sections.now.ok.0)

pub loop-preserved : goal.loop-preserved
loop-preserved c =
    c.in_ok-extend_from_within.ensures.items
    ∙ copies_more c.args.begin c.len-end.result c.loop.counter c.args.sections.now.items c.loop.sections.items
    (omega (arith, c.args.sections.now.ok.0)) (omega (arith, c.len-end.ensures, c.args.sections.now.ok.0)) (omega arith) c.loop.invariant

pub returns-else-begin-end : goal.returns-else-begin-end
returns-else-begin-end c = copies_none c.args.begin c.args.times c.args.sections.now.items (omega (arith, c.len-end.ensures, c.args.sections.now.ok.0))
