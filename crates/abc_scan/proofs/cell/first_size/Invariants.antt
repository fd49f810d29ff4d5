use Rattle.std.proofs.Common.{◌≡◌, ◌+◌, drop}
use Rattle.abc_scan.specs.Cell.{first_size}
use Rattle.abc_scan.proofs.cell.first_size.Given as goal

-- no bar line so far
abbrev pub invariant-loop-at : goal.invariant-loop-at
invariant-loop-at l = l.at + first_size (drop l.at l.tokens) ≡ first_size l.tokens
