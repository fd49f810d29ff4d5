use Rattle.std.proofs.Common.{refl}
use Rattle.abc_time.proofs.lengths.divide.Goals as goal

pub returns-else-cancel-eq1-clause-not_whole : goal.returns-else-cancel-eq1-clause-not_whole
returns-else-cancel-eq1-clause-not_whole c =
    (refl, λ w. c.if-cancel-eq1.false (c.cancel.ensures.whole (rw c.from.ensures w)))
