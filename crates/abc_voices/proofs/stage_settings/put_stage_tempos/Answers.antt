use Rattle.std.proofs.Common.{◌≡◌, sym, ap, ◌∙◌, arith}
use Rattle.abc_voices_sections.specs.Items.{items_of}
use Rattle.abc_voices_sections.specs.Play.{duration}
use Rattle.abc_voices.proofs.Borrowed.{IsPart-played}
use Rattle.abc_voices.proofs.stage_settings.put_stage_tempos.Goals as goal

pub put_set-requires : goal.put_set-requires
put_set-requires c =
    let is = IsPart-played c.args.stage.now c.as_slice-part-items.result.now c.loop-part.part-index c.part-item.result c.as_slice-part-items.ensures
    c.loop-part-test.true c.part-item.is c.requires.stage in
    let long : duration (items_of c.as_slice.result.now) ≡ c.part-item.result.length.0 = ap (λ steps. duration (items_of steps)) c.as_slice.ensures ∙ sym is.length in
    omega (arith, long, is.short, c.requires.end)
