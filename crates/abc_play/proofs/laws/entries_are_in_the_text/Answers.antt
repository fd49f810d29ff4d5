use Rattle.abc_play.proofs.PlaysText.{plays_text}
use Rattle.abc_play.proofs.laws.entries_are_in_the_text.Goals as goal

pub returns : goal.returns
returns c = plays_text
