use Rattle.std.proofs.Common.{arith}
use Rattle.abc_repeat.specs.Play.{endings_size}
use Rattle.abc_repeat.proofs.Sizes.{endings_more}
use Rattle.abc_repeat.proofs.size.endings_size.Goals as goal

pub loop-earlier-init : goal.loop-earlier-init
unfolding endings_size
loop-earlier-init c = omega arith

pub loop-earlier-preserved : goal.loop-earlier-preserved
loop-earlier-preserved c =
    let more = endings_more c.args.text.now c.up_to_ending.result.now c.loop-earlier.earlier c.run_start-start.result c.run_start-start.ensures.value c.up_to_ending.ensures.value in
    omega (arith, more)
