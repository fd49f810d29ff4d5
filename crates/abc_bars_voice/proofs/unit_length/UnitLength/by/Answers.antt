use Rattle.std.proofs.Common.{subst, sym}
use Rattle.abc_fields.specs.Unit.{part_as_unit}
use Rattle.abc_bars_voice.specs.UnitLength.{IsUnitPart}
use Rattle.abc_bars_voice.proofs.WholeParts.{eighth, sixteenth}
use Rattle.abc_bars_voice.proofs.unit_length.UnitLength.by.Goals as goal
use Rattle.abc_bars_voice.proofs.unit_length.UnitLength.by.Goals.{in-Of, in-Of-2-2, in-Of-2}

pub invariant_of-result : goal.invariant_of-result
invariant_of-result c = elim c.match-get.branch [
  | in-Of w ↦ subst (λ n. IsUnitPart (part_as_unit n)) (sym w.parts-is) sixteenth
  | in-Of-2-2 w ↦ subst (λ n. IsUnitPart (part_as_unit n)) (sym w.parts-is) eighth
  | in-Of-2 w ↦ subst (λ n. IsUnitPart (part_as_unit n)) (sym w.parts-is) eighth
]
