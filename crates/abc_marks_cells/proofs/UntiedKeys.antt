-- Keys that no tie changes.
use Rattle.std.proofs.Common.{refl}
use Rattle.abc_marks_cells.specs.Laws.{AreKeysWithoutTies}

pub keys_without_ties : AreKeysWithoutTies
keys_without_ties state note = refl
