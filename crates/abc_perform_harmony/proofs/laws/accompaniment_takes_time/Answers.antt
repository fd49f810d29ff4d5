use Rattle.abc_perform_harmony.proofs.Taken.{takes_time}
use Rattle.abc_perform_harmony.proofs.laws.accompaniment_takes_time.Goals as goal

pub returns : goal.returns
returns c = takes_time
