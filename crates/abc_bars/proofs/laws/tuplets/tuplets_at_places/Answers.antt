use Rattle.abc_bars.proofs.LookBack.TupletPlaces.{tuplets_by_marks}
use Rattle.abc_bars.proofs.laws.tuplets.tuplets_at_places.Goals as goal

pub returns : goal.returns
returns c = tuplets_by_marks
