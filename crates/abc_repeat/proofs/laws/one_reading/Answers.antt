use Rattle.std.proofs.Common.{◌∙◌, sym}
use Rattle.abc_repeat.proofs.Existence.{computed_reading}
use Rattle.abc_repeat.proofs.Readings.{reading_computed}
use Rattle.abc_repeat.proofs.laws.one_reading.Goals as goal

pub returns-clause-exists : goal.returns-clause-exists
returns-clause-exists c = computed_reading

pub returns-clause-once : goal.returns-clause-once
returns-clause-once c = λ ms a b first second. sym (reading_computed first) ∙ reading_computed second
