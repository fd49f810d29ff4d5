use Rattle.abc_live_cost.proofs.Words.{entered_are_items, nth_of_line}
use Rattle.abc_live_cost.proofs.laws.entered_states.Goals as goal

pub returns-clause-items : goal.returns-clause-items
returns-clause-items g c = entered_are_items

pub returns-clause-nth : goal.returns-clause-nth
returns-clause-nth g c = nth_of_line
