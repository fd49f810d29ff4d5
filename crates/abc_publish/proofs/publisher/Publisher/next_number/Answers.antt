use Rattle.std.proofs.Common.{arith}
use Rattle.abc_publish.proofs.Least.{nothing_there}
use Rattle.abc_publish.proofs.publisher.Publisher.next_number.Goals as goal

pub returns-in-Some-Some-clause-none : goal.returns-in-Some-Some-clause-none
returns-in-Some-Some-clause-none g c n from below =
    nothing_there _ _ _ n c.numbers.ensures.value (c.in-Some-Some.ensures.none n from (omega (arith, c.min.ensures))) (c.in-Some-Some.ensures'.none n from (omega (arith, c.min.ensures)))

pub returns-in-None-default-clause-none : goal.returns-in-None-default-clause-none
returns-in-None-default-clause-none g c n from below = nothing_there _ _ _ n c.numbers.ensures.value
    (c.next_slot.ensures.none n from (rw c.in-None-default.is-0 tt)) (c.next_in.ensures.none n from below)

pub returns-in_default-None-clause-none : goal.returns-in_default-None-clause-none
returns-in_default-None-clause-none g c n from below = nothing_there _ _ _ n c.numbers.ensures.value (c.in_default-None.ensures.none n from below) (c.in_default-None.ensures'.none n from tt)

pub returns-in_default-None-2-clause-none : goal.returns-in_default-None-2-clause-none
returns-in_default-None-2-clause-none g c n from below = nothing_there _ _ _ n c.numbers.ensures.value (c.next_slot.ensures.none n from below) (c.in_default-None.ensures.none n from tt)
