-- The test of the powers of two up to 64.
use Rattle.std.proofs.Common.{refl}
use Rattle.std.proofs.lemmas.Bool.{false≢true}
use Rattle.abc_text.specs.Power.{is_power_up_to}
use Rattle.abc_text.proofs.Powers.{power_from, power_to}
use Rattle.tests_files.proofs.definitions.changes_that_a_file_can_hold.Goals as goal

pub returns-clause-meter : goal.returns-clause-meter
unfolding is_power_up_to
returns-clause-meter c = power_from 6 64 refl

pub returns-clause-other_meter : goal.returns-clause-other_meter
unfolding is_power_up_to
returns-clause-other_meter c = λ is. false≢true (power_to 6 6 is)
