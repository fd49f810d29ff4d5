use Rattle.abc_bars.proofs.LookBack.Openings.{declared_voices_open, other_voices_open}
use Rattle.abc_bars.proofs.laws.openings.openings_of_voices.Goals as goal

pub returns-clause-declared : goal.returns-clause-declared
returns-clause-declared c = declared_voices_open

pub returns-clause-others : goal.returns-clause-others
returns-clause-others c = other_voices_open
