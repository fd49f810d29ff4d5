use Rattle.std.proofs.lemmas.Grind.{common_steps}
use Rattle.std.proofs.Common.{add-one, arith}
use Rattle.abc_perform_note.proofs.Alternations.{alternations-next}
use Rattle.abc_perform_note.proofs.trills.alternations.Goals as goal

pub loop-preserved : goal.loop-preserved
loop-preserved c =
    let next = alternations-next c.loop.counter c.args.key c.args.up c.args.length.0 in
    (rw add-one (grind (arith, common_steps, next)), grind (arith, common_steps))
