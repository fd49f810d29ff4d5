use Rattle.abc_bars_notes.proofs.ChordNotes.{chords_sound, big_at_the_seventeenth}
use Rattle.abc_bars_notes.proofs.laws.notes_of_chords.Goals as goal

pub returns-clause-sound : goal.returns-clause-sound
returns-clause-sound c = chords_sound

pub returns-clause-big : goal.returns-clause-big
returns-clause-big c = big_at_the_seventeenth
