use Rattle.std.proofs.Common.{arith}
use Rattle.abc_perform_note.proofs.Shares.{equal_shares}
use Rattle.abc_perform_note.proofs.grace.grace_share.Goals as goal

pub returns-else-wanted-half-clause-exact : goal.returns-else-wanted-half-clause-exact
returns-else-wanted-half-clause-exact c = equal_shares c.args.wants.now c.args.half.0 (omega arith)
