use Rattle.abc_voices.proofs.Ends.{ends_once}
use Rattle.abc_voices.proofs.laws.ends_of_tunes.Goals as goal

pub returns : goal.returns
returns c = ends_once
