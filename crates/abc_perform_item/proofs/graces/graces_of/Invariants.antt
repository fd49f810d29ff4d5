use Rattle.std.proofs.Common.{◌≡◌, ◌+◌, [], drop}
use Rattle.abc_perform_item.specs.Graces.{AreGraces, with_marks}
use Rattle.abc_perform_item.proofs.graces.graces_of.Given as goal

abbrev pub invariant-loop-index : goal.invariant-loop-index
invariant-loop-index l =
    (with_marks l.graces l.cell (l.first + l.index) (drop l.index l.marks) ≡ with_marks [] l.cell l.first l.marks)
    × AreGraces l.graces
