use Rattle.abc_bars.proofs.LookBack.Lengths.{bar_rests_last_there, chords_last_there, notes_last_there, rests_last_there}
use Rattle.abc_bars.proofs.laws.lengths.lengths_at_places.Goals as goal

pub returns : goal.returns
returns c = record { notes = notes_last_there; rests = rests_last_there; chords = chords_last_there; bar_rests = bar_rests_last_there }
