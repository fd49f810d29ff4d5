use Rattle.std.proofs.Common.{◌≡◌, length}
use Rattle.abc_bars_voice.specs.VoiceState.{without_accidentals}
use Rattle.abc_bars_body.proofs.Voices.{changed_to}
use Rattle.abc_bars_body.proofs.body.clear_accidentals.Given as goal

abbrev pub invariant-loop-at : goal.invariant-loop-at
invariant-loop-at l = record {
  changed : l.voices ≡ changed_to without_accidentals l.at l.fn.voices;
  count : l.at-end ≡ length l.fn.voices;
}
