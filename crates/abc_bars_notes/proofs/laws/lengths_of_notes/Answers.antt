use Rattle.abc_bars_notes.proofs.Lasting.{notes_last, rests_last}
use Rattle.abc_bars_notes.proofs.laws.lengths_of_notes.Goals as goal

pub returns-clause-notes : goal.returns-clause-notes
returns-clause-notes c = notes_last

pub returns-clause-rests : goal.returns-clause-rests
returns-clause-rests c = rests_last
