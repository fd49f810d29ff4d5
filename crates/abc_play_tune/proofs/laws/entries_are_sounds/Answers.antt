use Rattle.abc_play_tune.proofs.Sounded.{sounds_score}
use Rattle.abc_play_tune.proofs.laws.entries_are_sounds.Goals as goal

pub returns : goal.returns
returns c = sounds_score
