use Rattle.abc_perform_item.proofs.KeptTime.{graces_take_half}
use Rattle.abc_perform_item.proofs.laws.time_is_kept.Goals as goal

pub returns-clause-half : goal.returns-clause-half
returns-clause-half c = graces_take_half
