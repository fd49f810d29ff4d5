use Rattle.std.proofs.Common.{◌-◌, None, false, take, length, arith, add-one, drop-cons}
use Rattle.std.proofs.lemmas.Grind.{common_steps}
use Rattle.abc_bars_items.specs.declared.item.Tone.{Tone}
use Rattle.abc_perform_item.proofs.spread_chord.put_steps.Goals as goal

-- any tone
abbrev silence : Tone
silence = record { length = record { 0 = 0 }; key = None; velocity = 0; tied = false }

pub loop-index-preserved : goal.loop-index-preserved
loop-index-preserved c =
    let before_last = take (length c.args.tones.now - 1) c.args.tones.now in
    let here = drop-cons before_last c.loop-index.index silence (omega arith) in
    rw add-one (grind (arith, common_steps, here))
