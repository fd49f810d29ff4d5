use Rattle.std.proofs.Common.{arith}
use Rattle.std.proofs.lemmas.Grind.{common_steps}
use Rattle.abc_perform_harmony.proofs.NextStep.{next_step}
use Rattle.abc_perform_harmony.proofs.stretch_items.put_steps.Goals as goal

pub loop-step-preserved : goal.loop-step-preserved
loop-step-preserved c = grind (arith, common_steps, next_step)
