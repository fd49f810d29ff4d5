use Rattle.abc_bars.proofs.LookBack.Velocities.{chords_have_velocities, notes_have_velocities}
use Rattle.abc_bars.proofs.laws.velocities.velocities_at_places.Goals as goal

pub returns-clause-notes : goal.returns-clause-notes
returns-clause-notes c = notes_have_velocities

pub returns-clause-chords : goal.returns-clause-chords
returns-clause-chords c = chords_have_velocities
