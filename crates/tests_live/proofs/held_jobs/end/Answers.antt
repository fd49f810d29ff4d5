use Rattle.tests_live.proofs.Jobs.{others}
use Rattle.tests_live.proofs.held_jobs.end.Goals as goal

pub returns-then-done : goal.returns-then-done
returns-then-done c = others _ _ c.args.job.number _ c.done.ensures

pub returns-else-done : goal.returns-else-done
returns-else-done c = others _ _ c.args.job.number _ c.failed.ensures
