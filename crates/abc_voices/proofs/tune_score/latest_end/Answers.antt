use Rattle.std.proofs.Common.{◌+◌, drop, ap, ◌∙◌}
use Rattle.std.specs.List.{flat_map}
use Rattle.abc_voices.specs.Layout.{last_off}
use Rattle.abc_voices.proofs.Lengths.{all_more}
use Rattle.abc_voices.proofs.tune_score.latest_end.Goals as goal

pub loop-notes-preserved : goal.loop-notes-preserved
loop-notes-preserved c =
    ap (λ n. last_off n (flat_map (λ notes. notes) (drop (c.loop-notes.notes-index + 1) c.args.voices.now))) (c.last_off-last.ensures ∙ ap (last_off c.loop-notes.last.0) c.as_slice.ensures)
    ∙ all_more c.loop-notes.last.0 c.args.voices.now c.loop-notes.notes-index c.notes-item.result c.loop-notes-test.true c.notes-item.is
    ∙ c.loop-notes.invariant
