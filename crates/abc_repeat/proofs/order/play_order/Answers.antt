use Rattle.abc_repeat.proofs.order.play_order.Goals as goal

pub returns-in-None-clause-refused : goal.returns-in-None-clause-refused
returns-in-None-clause-refused c = rw c.in-None.is c.play_all.ensures.refused

pub returns-in-Some-clause-refused : goal.returns-in-Some-clause-refused
returns-in-Some-clause-refused c = rw c.in-Some.is c.play_parts.ensures.refused
