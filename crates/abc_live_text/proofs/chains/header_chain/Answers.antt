use Rattle.abc_fold.proofs.Raised.{raised-none}
use Rattle.abc_live_text.proofs.chains.header_chain.Goals as goal

pub returns-in-None-clause-counted : goal.returns-in-None-clause-counted
returns-in-None-clause-counted g c = raised-none _ _
