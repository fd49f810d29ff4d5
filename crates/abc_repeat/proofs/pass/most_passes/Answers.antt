use Rattle.std.proofs.Common.{ap, arith}
use Rattle.abc_repeat.specs.Play.{most_passes}
use Rattle.abc_repeat.proofs.Passes.{most_passes-some}
use Rattle.std.proofs.lemmas.List.{drop_all}
use Rattle.abc_repeat.proofs.pass.most_passes.Goals as goal

pub loop-mark-init : goal.loop-mark-init
loop-mark-init c = let some = most_passes-some c.args.text.now in record { some = omega arith; small = omega arith; most = omega arith }

pub returns : goal.returns
returns c = let none = ap most_passes (drop_all c.loop-mark.mark-index c.args.text.now c.loop-mark-test.false) in omega
    (arith, c.loop-mark.invariant.small, c.loop-mark.invariant.some, c.loop-mark.invariant.most)
