use Rattle.abc_play.proofs.PlaysText.{plays_keys}
use Rattle.abc_play.proofs.laws.keys_are_looked_back.Goals as goal

pub returns : goal.returns
returns c = plays_keys
