use Rattle.abc_bars_notes.proofs.ChordKeys.{chords_are_as_loud, notes_are_as_loud}
use Rattle.abc_bars_notes.proofs.laws.velocities_of_notes.Goals as goal

pub returns-clause-alone : goal.returns-clause-alone
returns-clause-alone c = notes_are_as_loud

pub returns-clause-chords : goal.returns-clause-chords
returns-clause-chords c = chords_are_as_loud
