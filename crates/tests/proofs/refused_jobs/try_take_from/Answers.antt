use Rattle.tests_live.proofs.Jobs.{own}
use Rattle.tests.proofs.refused_jobs.try_take_from.Goals as goal

pub returns-in-Ok-Some : goal.returns-in-Ok-Some
returns-in-Ok-Some c = own _ _ _ _ (rw c.in-Ok-Some.field-0-is at c.in-Ok-Some.ensures.after)
