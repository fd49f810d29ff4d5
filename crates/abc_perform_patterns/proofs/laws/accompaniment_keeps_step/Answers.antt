use Rattle.abc_perform_patterns.proofs.Counts.{defaults_fit}
use Rattle.abc_perform_patterns.proofs.Filled.{steps_fill_stretch}
use Rattle.abc_perform_patterns.proofs.laws.accompaniment_keeps_step.Goals as goal

pub returns-clause-step : goal.returns-clause-step
returns-clause-step c = steps_fill_stretch

pub returns-clause-defaults : goal.returns-clause-defaults
returns-clause-defaults c = defaults_fit
