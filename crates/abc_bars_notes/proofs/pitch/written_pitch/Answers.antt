use Rattle.std.proofs.Common.{◌∙◌, ℕ, ◌+◌, ◌<◌, arith, rules}
use Rattle.std.proofs.lemmas.Int.{ints}
use Rattle.std.specs.Prelude.{ℤ, pos}
use mir.Syntax.{w8, w32, w64}
use mir.Val.{SFits}
use Rattle.abc_bars_notes.proofs.Pitches.{AddsUp, near_sum, widened}
use Rattle.abc_bars_notes.proofs.pitch.written_pitch.Goals as goal

-- the pitch of a capital letter
small : (n : ℕ) → n < 12 → SFits w32 (pos (60 + n))
small n below = omega (arith, ints)

byte : (x : ℤ) → SFits w8 x → SFits w32 x
byte x fits = omega (arith, ints)

sum : (c : goal.After-from-2) → AddsUp w64 (pos (60 + c.semitones.result)) c.args.note.octave c.args.by c.from.result c.from-octaves.result c.from-2.result
sum c =
    let by : SFits w8 c.args.by = search rules in
    near_sum _ _ _ _ _ _ (small _ c.semitones.ensures.within_octave) (search rules) (byte _ by) c.from.ensures
    (widened w32 _ _ (search rules) c.from-octaves.ensures) (widened w8 _ _ by c.from-2.ensures)

pub overflow_add-result-2 : goal.overflow_add-result-2
overflow_add-result-2 c = (sum c).fits

pub returns : goal.returns
returns c = (sum c).is ∙ cc
