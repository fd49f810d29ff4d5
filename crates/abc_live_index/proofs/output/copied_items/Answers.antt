use Rattle.std.proofs.Common.{arith, sym}
use Rattle.abc_live_index.proofs.OutputLists.{copied_all, copied_more}
use Rattle.abc_live_index.proofs.output.copied_items.Goals as goal

pub loop-items-preserved : goal.loop-items-preserved
loop-items-preserved g c =
    copied_more c.args.chain.now.items c.loop-items.copies.items _ _ c.in-Some.items.now c.in_ok-copy_items.field-0
    (omega (arith, c.len-in-loop-items.ensures, c.loop-items.copies.ok.0)) c.in_ok-push.ensures.items c.in_ok-copy_items.ensures (sym c.in-Some.ensures) c.loop-items.invariant

pub returns : goal.returns
returns g c = copied_all c.args.chain.now.items c.loop-items.copies.items _ (omega (arith, c.len-in-loop-items.ensures, c.loop-items.copies.ok.0)) (sym c.in_default.ensures) c.loop-items.invariant
