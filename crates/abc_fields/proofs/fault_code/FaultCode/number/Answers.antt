use Rattle.std.proofs.Common.{◌∙◌, rules}
use Rattle.abc_fields.proofs.Faults.{one_code}
use Rattle.abc_fields.proofs.fault_code.FaultCode.number.Goals as goal

pub returns-clause-value : goal.returns-clause-value
returns-clause-value c = search rules

pub returns-clause-own : goal.returns-clause-own
returns-clause-own c other e = one_code other c.args.self (e ∙ returns-clause-value c)
