use Rattle.abc_play_tune.proofs.AllTones.{plays_tones}
use Rattle.abc_play_tune.proofs.laws.entries_are_tones.Goals as goal

pub returns : goal.returns
returns c = plays_tones
