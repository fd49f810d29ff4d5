use Rattle.abc_voices.proofs.Lengths.{stage_played}
use Rattle.abc_voices.proofs.stage_settings.tempos_along.Goals as goal

pub put_stage_tempos-requires-clause-stage : goal.put_stage_tempos-requires-clause-stage
put_stage_tempos-requires-clause-stage c =
    stage_played c.args.turns.now c.loop-turn.turn-index c.turn-item.result c.loop-turn-test.true c.turn-item.is c.requires.stages
