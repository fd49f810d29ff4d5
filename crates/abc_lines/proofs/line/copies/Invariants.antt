use Rattle.std.proofs.Common.{◌≡◌, take}
use Rattle.abc_lines.specs.Text.{lines_of}
use Rattle.abc_lines.proofs.line.copies.Given as goal

-- the lines so far have been copied
abbrev pub invariant-loop-line : goal.invariant-loop-line
invariant-loop-line l = l.copies.items ≡ lines_of (take l.line-index l.lines)
