use Rattle.abc_bars_notes.proofs.ChordKeys.{chords_sound_their_keys}
use Rattle.abc_bars_notes.proofs.NoteKeys.{notes_sound_their_keys}
use Rattle.abc_bars_notes.proofs.laws.keys_of_notes.Goals as goal

pub returns-clause-alone : goal.returns-clause-alone
returns-clause-alone c = notes_sound_their_keys

pub returns-clause-chords : goal.returns-clause-chords
returns-clause-chords c = chords_sound_their_keys
