use Rattle.std.proofs.Common.{arith}
use Rattle.std.proofs.lemmas.Grind.{common_steps}
use Rattle.abc_voices.specs.Turns.{stages_in, programs_by}
use Rattle.abc_voices.proofs.Lengths.{voices_step}
use Rattle.abc_voices.proofs.programs.each_programs.Goals as goal

pub loop-voice-preserved : goal.loop-voice-preserved
loop-voice-preserved c =
    let step = voices_step (programs_by c.args.opening (stages_in c.args.turns.now)) c.loop-voice.voice c.args.count c.loop-voice.voices.items c.in_ok-programs.programs _
    c.loop-voice-test.true c.in_ok-programs.ensures c.loop-voice.invariant in
    grind (arith, common_steps, step)
