use Rattle.std.proofs.Common.{ap, ◌∙◌, rules}
use Rattle.std.proofs.lemmas.Int.{to_z-of_z}
use Rattle.std.specs.Prelude.{◌+ℤ◌}
use mir.Syntax.{w8, w64}
use mir.Val.{SFits}
use Rattle.abc_bars_notes.specs.Pitch.{midi_key, written_pitch}
use Rattle.abc_bars_notes.proofs.Pitches.{shifted-is, widened}
use Rattle.abc_bars_notes.proofs.pitch.key_of.Goals as goal

pub returns-clause-value : goal.returns-clause-value
returns-clause-value c =
    let fits : SFits w64 c.written_pitch.result = search rules in
    let by : SFits w8 c.args.by = search rules in
    let wide = widened w64 _ _ fits c.from-written.ensures in
    let written = c.written_pitch.ensures ∙ ap (written_pitch c.args.note) (to_z-of_z w8 c.args.by by) in
    rw (c.midi_key-2.ensures.value, wide, shifted-is _ _ fits c.total_shift.ensures.low c.total_shift.ensures.high)
    (λ i. midi_key (written i +ℤ c.total_shift.ensures.value i))
