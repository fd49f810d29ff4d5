use Rattle.abc_bars.proofs.LookBack.Keys.{altered_by_rule}
use Rattle.abc_bars.proofs.laws.keys.alterations_of_notes.Goals as goal

pub returns : goal.returns
returns c = altered_by_rule
