use Rattle.abc_play_tune.proofs.WithoutPlaces.{plays_sections}
use Rattle.abc_play_tune.proofs.laws.sections_of_plays.Goals as goal

pub returns : goal.returns
returns c = plays_sections
