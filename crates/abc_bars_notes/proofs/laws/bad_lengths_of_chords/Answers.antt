use Rattle.abc_bars_notes.proofs.ChordFaults.{bad_lengths_at_notes}
use Rattle.abc_bars_notes.proofs.laws.bad_lengths_of_chords.Goals as goal

pub returns : goal.returns
returns c = bad_lengths_at_notes
