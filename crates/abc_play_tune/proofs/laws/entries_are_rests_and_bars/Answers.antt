use Rattle.abc_play_tune.proofs.Passed.{plays_rests_and_bars}
use Rattle.abc_play_tune.proofs.laws.entries_are_rests_and_bars.Goals as goal

pub returns : goal.returns
returns c = plays_rests_and_bars
