use Rattle.std.proofs.Common.{◌≡◌, drop}
use Rattle.abc_perform_item.specs.Graces.{AreGraces, with_notes}
use Rattle.abc_perform_item.proofs.graces.put_notes.Given as goal

abbrev pub invariant-loop-index : goal.invariant-loop-index
invariant-loop-index l =
    (with_notes l.graces l.mark l.velocity l.index (drop l.index l.notes) ≡ with_notes l.initial.graces l.mark l.velocity 0 l.notes)
    × AreGraces l.graces
