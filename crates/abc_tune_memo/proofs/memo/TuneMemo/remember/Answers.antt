use Rattle.abc_tune_memo.proofs.Remembering.{done_or_refused}
use Rattle.abc_tune_memo.proofs.memo.TuneMemo.remember.Goals as goal

pub returns : goal.returns
returns g c = done_or_refused c.put.result c.put.ensures.ok c.put.ensures.unchanged
