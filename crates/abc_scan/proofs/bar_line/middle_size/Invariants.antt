use Rattle.std.proofs.Common.{◌≡◌, ◌+◌, drop}
use Rattle.abc_scan.specs.Bar.{middle_from}
use Rattle.abc_scan.proofs.bar_line.middle_size.Given as goal

-- the bytes so far, and those of the rest
abbrev pub invariant-loop-at : goal.invariant-loop-at
invariant-loop-at l = l.at + middle_from l.before (drop l.at l.text) ≡ middle_from 32 l.text
