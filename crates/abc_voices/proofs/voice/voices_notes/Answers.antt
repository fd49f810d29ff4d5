use Rattle.std.proofs.Common.{arith}
use Rattle.std.proofs.lemmas.Grind.{common_steps}
use Rattle.abc_voices.specs.Layout.{all_notes}
use Rattle.abc_voices.specs.Turns.{stages_in, notes_along}
use Rattle.abc_voices.proofs.Lengths.{voices_step}
use Rattle.abc_voices.proofs.voice.voices_notes.Goals as goal

pub loop-voice-preserved : goal.loop-voice-preserved
loop-voice-preserved c =
    let step = voices_step (λ one. all_notes (notes_along one 0 (stages_in c.args.turns.now))) c.loop-voice.voice c.args.count c.loop-voice.voices.items c.in_ok-notes.notes _
    c.loop-voice-test.true c.in_ok-notes.ensures c.loop-voice.invariant in
    grind (arith, common_steps, step)
