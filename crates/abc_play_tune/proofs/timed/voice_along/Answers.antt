use Rattle.std.proofs.Common.{arith}
use Rattle.std.proofs.lemmas.Grind.{common_steps}
use Rattle.abc_play_tune.proofs.Lengths.{length_along-step, timed_step, stage_played}
use Rattle.abc_play_tune.proofs.timed.voice_along.Goals as goal

pub put_stage-requires-clause-stage : goal.put_stage-requires-clause-stage
put_stage-requires-clause-stage c =
    stage_played c.args.turns.now c.loop-turn.turn-index c.turn-item.result c.loop-turn-test.true c.turn-item.is c.requires.stages

pub loop-turn-preserved : goal.loop-turn-preserved
loop-turn-preserved c =
    let length = length_along-step c.args.turns.now c.loop-turn.turn-index c.turn-item.result c.loop-turn-test.true c.turn-item.is in
    let step = timed_step c.args.voice c.args.turns.now c.loop-turn.turn-index c.loop-turn.at.0
    c.loop-turn.timed.items _ c.turn-item.result c.loop-turn-test.true c.turn-item.is c.loop-turn.invariant.put in
    record { moment = omega (arith, length, c.loop-turn.invariant.moment); put = grind (arith, common_steps, step) }
