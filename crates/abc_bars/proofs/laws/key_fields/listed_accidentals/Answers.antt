use Rattle.abc_bars.proofs.ListedAccidentals.{last_listed_counts}
use Rattle.abc_bars.proofs.laws.key_fields.listed_accidentals.Goals as goal

pub returns : goal.returns
returns c = last_listed_counts
