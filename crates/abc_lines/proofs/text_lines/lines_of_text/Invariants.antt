use Rattle.std.proofs.Common.{◌≡◌, ◌++◌, length}
use Rattle.abc_lines.specs.Text.{text_of}
use Rattle.abc_lines.specs.TextLines.{lines_in}
use Rattle.abc_lines.proofs.text_lines.lines_of_text.Given as goal

-- the lines so far, and those of the rest
abbrev pub invariant-lines : goal.invariant-lines
invariant-lines l = text_of l.lines ++ lines_in l.rest ≡ lines_in l.fn.text

abbrev pub decreases-lines : goal.decreases-lines
decreases-lines l = length l.rest
