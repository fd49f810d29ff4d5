use Rattle.abc_play_tune.proofs.Entering.{tones_more}
use Rattle.abc_play_tune.proofs.entry.put_tones.Goals as goal

pub loop-index-preserved : goal.loop-index-preserved
loop-index-preserved c =
    tones_more c.args.previous.now c.args.at.0 c.args.place c.args.tones.now c.loop-index.index _ c.loop-index.entries.items c.push.new.self.items _ c.tone_entry-entry.result
    c.loop-index-test.true c.tone_entry-entry.ensures c.in_ok-push.ensures.items c.loop-index.invariant
