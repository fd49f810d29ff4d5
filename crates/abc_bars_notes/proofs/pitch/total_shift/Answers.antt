use Rattle.std.proofs.Common.{rules}
use mir.Syntax.{w64, w128}
use Rattle.abc_bars_notes.proofs.Pitches.{AddsUp, wide_high, wide_low, wide_sum, widened}
use Rattle.abc_bars_notes.proofs.pitch.total_shift.Goals as goal

sum : (c : goal.After-from-transpose) → AddsUp w128 c.args.shift.clef c.args.shift.octave c.args.shift.transpose c.from-clef.result c.from-octave.result c.from-transpose.result
sum c =
    wide_sum _ _ _ _ _ _ (search rules) (search rules) (search rules)
    (widened w64 _ _ (search rules) c.from-clef.ensures) (widened w64 _ _ (search rules) c.from-octave.ensures) (widened w64 _ _ (search rules) c.from-transpose.ensures)

pub overflow_add-result-2 : goal.overflow_add-result-2
overflow_add-result-2 c = (sum c).fits

pub returns-clause-value : goal.returns-clause-value
returns-clause-value c = (sum c).is

pub returns-clause-low : goal.returns-clause-low
returns-clause-low c = rw (sum c).is (wide_low c.args.shift.clef c.args.shift.octave c.args.shift.transpose (search rules) (search rules) (search rules))

pub returns-clause-high : goal.returns-clause-high
returns-clause-high c = rw (sum c).is (wide_high c.args.shift.clef c.args.shift.octave c.args.shift.transpose (search rules) (search rules) (search rules))
