use Rattle.std.proofs.Common.{arith}
use Rattle.abc_fold.specs.Work.{raised}
use Rattle.abc_fold.proofs.work.raise.Goals as goal

pub returns : goal.returns
unfolding raised
returns c = omega arith
