use Rattle.abc_bars.proofs.LookBack.LineLengths.{chords_of_lines_last, notes_of_lines_last, rests_of_lines_last}
use Rattle.abc_bars.proofs.laws.line_lengths.lengths_in_lines.Goals as goal

pub returns : goal.returns
returns c = record { notes = notes_of_lines_last; rests = rests_of_lines_last; chords = chords_of_lines_last }
