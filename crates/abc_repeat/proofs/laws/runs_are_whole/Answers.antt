use Rattle.abc_repeat.proofs.Whole.{joined, bars_passed}
use Rattle.abc_repeat.proofs.laws.runs_are_whole.Goals as goal

pub returns-clause-joined : goal.returns-clause-joined
returns-clause-joined g c = joined

pub returns-clause-single : goal.returns-clause-single
returns-clause-single g c = bars_passed
