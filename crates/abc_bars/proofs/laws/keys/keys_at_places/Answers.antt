use Rattle.abc_bars.proofs.LookBack.Keys.{chords_have_keys, notes_have_keys}
use Rattle.abc_bars.proofs.laws.keys.keys_at_places.Goals as goal

pub returns-clause-notes : goal.returns-clause-notes
returns-clause-notes c = notes_have_keys

pub returns-clause-chords : goal.returns-clause-chords
returns-clause-chords c = chords_have_keys
