use Rattle.std.proofs.Common.{◌-◌, ◌≤◌}
use Rattle.abc_lines.specs.GapRow.{Becomes, items_of}
use Rattle.abc_lines.proofs.gap_row.GapRow.follow_gap.Given as goal

abbrev pub invariant-loop-self : goal.invariant-loop-self
invariant-loop-self g l = Becomes l.fn.self l.self (items_of l.fn.self) l.self.at l.fn.self.size × (l.self.at ≤ l.index)

abbrev pub decreases-loop-self : goal.decreases-loop-self
decreases-loop-self g l = l.index - l.self.at
