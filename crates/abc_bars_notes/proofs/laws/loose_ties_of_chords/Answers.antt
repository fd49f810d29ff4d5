use Rattle.abc_bars_notes.proofs.LooseTies.{ties_after_notes}
use Rattle.abc_bars_notes.proofs.laws.loose_ties_of_chords.Goals as goal

pub returns : goal.returns
returns c = ties_after_notes
