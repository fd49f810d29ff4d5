use Rattle.std.proofs.Common.{◌≡◌, take}
use Rattle.abc_perform_item.specs.Decorations.{added_by}
use Rattle.abc_perform_item.proofs.decorations.added_by.Given as goal

abbrev pub invariant-loop-mark : goal.invariant-loop-mark
invariant-loop-mark l = l.added ≡ added_by (take l.mark-index l.marks)
