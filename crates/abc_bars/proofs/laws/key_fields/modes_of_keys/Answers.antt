use Rattle.abc_bars.proofs.KeyModes.{named_modes_add, others_are_major, other_runs_are_refused}
use Rattle.abc_bars.proofs.laws.key_fields.modes_of_keys.Goals as goal

pub returns : goal.returns
returns c = record { modes = named_modes_add; major = others_are_major; refused = other_runs_are_refused }
