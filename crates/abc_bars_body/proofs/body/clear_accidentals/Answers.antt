use Rattle.std.proofs.Common.{◌≡◌, ap, arith, length, ◌∙◌}
use Rattle.abc_bars_voice.specs.VoiceState.{without_accidentals}
use Rattle.abc_bars_body.proofs.Voices.{changed_more, changed_to, changed_to-length, length-changed_to}
use Rattle.abc_bars_body.proofs.body.clear_accidentals.Goals as goal

pub known_mut-requires : goal.known_mut-requires
known_mut-requires c =
    omega (arith, ap length c.loop-at.invariant.changed, length-changed_to without_accidentals c.loop-at.at c.args.voices.now)

pub loop-at-preserved : goal.loop-at-preserved
loop-at-preserved c = record {
  changed = changed_more without_accidentals c.args.voices.now c.loop-at.voices c.loop-at.at _ _ c.loop-at.invariant.changed c.known_mut.ensures.value c.clear_accidentals.ensures;
  count = c.loop-at.invariant.count;
}

pub returns : goal.returns
returns c =
    let end : c.loop-at.at ≡ length c.args.voices.now = omega (arith, c.loop-at.invariant.count) in
    c.loop-at.invariant.changed ∙ ap (λ n. changed_to without_accidentals n c.args.voices.now) end ∙ changed_to-length without_accidentals c.args.voices.now
