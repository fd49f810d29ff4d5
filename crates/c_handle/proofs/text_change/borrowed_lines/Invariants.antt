use Rattle.std.proofs.Common.{◌≡◌, ◌++◌, length}
use Rattle.abc_lines.specs.Text.{seen_lines}
use Rattle.abc_lines.specs.TextLines.{lines_in}
use Rattle.c_handle.proofs.text_change.borrowed_lines.Given as goal

-- the lines so far, and those of the rest
abbrev pub invariant-lines : goal.invariant-lines
invariant-lines l = seen_lines l.lines.items ++ lines_in l.rest ≡ lines_in l.fn.text

abbrev pub decreases-lines : goal.decreases-lines
decreases-lines l = length l.rest
