use Rattle.abc_bars.proofs.EntryLaws.{kinds_apart}
use Rattle.abc_bars.proofs.laws.headers.places_apart.Goals as goal

pub returns : goal.returns
returns c = kinds_apart
