use Rattle.std.proofs.Common.{arith}
use Rattle.std.proofs.lemmas.Grind.{common_steps}
use Rattle.abc_voices.proofs.Lengths.{voices_step}
use Rattle.abc_play_tune.specs.Timed.{timed_along}
use Rattle.abc_voices_sections.specs.Turns.{stages_in}
use Rattle.abc_play_tune.proofs.timed.voices_along.Goals as goal

pub loop-voice-preserved : goal.loop-voice-preserved
loop-voice-preserved c =
    let step = voices_step (λ one. timed_along one 0 (stages_in c.args.turns.now)) c.loop-voice.voice c.args.count c.loop-voice.voices.items c.in_ok-timed.timed _
    c.loop-voice-test.true c.in_ok-timed.ensures c.loop-voice.invariant in
    grind (arith, common_steps, step)
