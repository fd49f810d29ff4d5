use Rattle.std.proofs.Common.{◌-◌}
use Rattle.abc_lines.specs.GapRow.{Becomes, items_of}
use Rattle.abc_lines.proofs.gap_row.GapRow.move_gap.Given as goal

abbrev pub invariant-loop-self : goal.invariant-loop-self
invariant-loop-self g l = Becomes l.fn.self l.self (items_of l.fn.self) l.self.at l.fn.self.size

abbrev pub decreases-loop-self : goal.decreases-loop-self
decreases-loop-self g l = l.self.at - l.index
