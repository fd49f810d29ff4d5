use Rattle.std.proofs.Common.{◌≡◌, None, drop}
use Rattle.std.specs.Prelude.{IfSome}
use Rattle.abc_perform_item.specs.Decorations.{IsOrnament, ornament_after}
use Rattle.abc_perform_item.proofs.decorations.ornament_of.Given as goal

abbrev pub invariant-loop-mark : goal.invariant-loop-mark
invariant-loop-mark l =
    (ornament_after l.last (drop l.mark-index l.marks) ≡ ornament_after None l.marks) × IfSome l.last IsOrnament
