use Rattle.std.proofs.Common.{add-one, arith}
use Rattle.std.proofs.lemmas.Grind.{common_steps}
use Rattle.abc_perform_patterns.proofs.Bars.{repeated-next}
use Rattle.abc_perform_patterns.proofs.meter_pattern.put_repeated.Goals as goal

pub loop-preserved : goal.loop-preserved
loop-preserved c =
    let next = repeated-next c.loop.counter c.args.steps.now in
    rw add-one (grind (arith, common_steps, next))
