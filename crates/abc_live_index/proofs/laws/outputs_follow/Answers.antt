use Rattle.abc_live_index.proofs.SameOutputs.{files_follow, titles_follow}
use Rattle.abc_live_index.proofs.laws.outputs_follow.Goals as goal

pub returns-clause-files : goal.returns-clause-files
returns-clause-files c = files_follow

pub returns-clause-titles : goal.returns-clause-titles
returns-clause-titles c = titles_follow
