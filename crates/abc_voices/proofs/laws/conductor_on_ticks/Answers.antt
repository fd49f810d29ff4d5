use Rattle.abc_voices.proofs.Conductor.{is_conducted}
use Rattle.abc_voices.proofs.laws.conductor_on_ticks.Goals as goal

pub returns : goal.returns
returns c = is_conducted
