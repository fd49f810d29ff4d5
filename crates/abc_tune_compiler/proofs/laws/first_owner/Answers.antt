use Rattle.abc_tune_compiler.proofs.Owners.{first_owner}
use Rattle.abc_tune_compiler.proofs.laws.first_owner.Goals as goal

pub returns : goal.returns
returns c = first_owner
