use Rattle.std.proofs.Common.{arith}
use Rattle.std.proofs.lemmas.Grind.{common_steps}
use Rattle.abc_voices.proofs.Lengths.{length_step, set_one_step, stage_played}
use Rattle.abc_voices.proofs.stage_settings.put_stages.Goals as goal

pub put_stage-requires-clause-stage : goal.put_stage-requires-clause-stage
put_stage-requires-clause-stage g c =
    stage_played c.args.turns.now c.loop-turn.turn-index c.turn-item.result c.loop-turn-test.true c.turn-item.is c.requires.stages

pub loop-turn-preserved : goal.loop-turn-preserved
loop-turn-preserved g c =
    let length = length_step c.args.turns.now c.loop-turn.turn-index c.turn-item.result c.loop-turn-test.true c.turn-item.is in
    let step = set_one_step g.S.Setting.value_of c.args.voice c.args.turns.now c.loop-turn.turn-index c.loop-turn.at.0
    c.loop-turn.sets.items _ c.turn-item.result c.loop-turn-test.true c.turn-item.is c.loop-turn.invariant.set in
    record { moment = omega (arith, length, c.loop-turn.invariant.moment); set = grind (arith, common_steps, step) }
