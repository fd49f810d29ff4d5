use Rattle.abc_repeat.proofs.RulePlays.{by_the_rules, no_other_play}
use Rattle.abc_repeat.proofs.laws.plays_by_the_rules.Goals as goal

pub returns-clause-exists : goal.returns-clause-exists
returns-clause-exists c = by_the_rules

pub returns-clause-once : goal.returns-clause-once
returns-clause-once c = no_other_play
