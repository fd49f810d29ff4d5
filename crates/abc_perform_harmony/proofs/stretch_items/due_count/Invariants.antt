use Rattle.std.proofs.Common.{◌≡◌, ◌+◌, drop}
use Rattle.abc_perform_harmony.specs.StretchItems.{due_count}
use Rattle.abc_perform_harmony.proofs.stretch_items.due_count.Given as goal

abbrev pub invariant-loop-index : goal.invariant-loop-index
invariant-loop-index l = due_count l.moment.0 l.marks ≡ l.index + due_count l.moment.0 (drop l.index l.marks)
