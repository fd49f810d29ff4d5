use Rattle.std.proofs.Common.{refl}
use Rattle.std.specs.Fmt.{digits}
use Rattle.abc2midi_live.specs.Answer.{fault_line, fault_list, title_line, title_list}
use Rattle.tests_live.proofs.definitions.answers.lists.Goals as goal

pub returns-clause-fault : goal.returns-clause-fault
unfolding fault_list fault_line digits
returns-clause-fault c = refl

pub returns-clause-faults : goal.returns-clause-faults
unfolding fault_list fault_line digits
returns-clause-faults c = refl

pub returns-clause-titles : goal.returns-clause-titles
unfolding title_list title_line digits
returns-clause-titles c = refl
