use Rattle.abc_tune_compiler.proofs.Order.{no_fault_lost, faults_rise}
use Rattle.abc_tune_compiler.proofs.laws.each_fault_once.Goals as goal

pub returns-clause-members : goal.returns-clause-members
returns-clause-members c = no_fault_lost

pub returns-clause-rise : goal.returns-clause-rise
returns-clause-rise c = faults_rise
