use Rattle.std.proofs.Common.{◌≡◌, ◌+◌, ◌≤◌, length}
use Rattle.std.specs.List.{list_all}
use Rattle.abc_lines.specs.Text.{is_line}
use Rattle.abc_lines.specs.TextLines.{lines_in}
use Rattle.abc_lines.specs.Limits.{limit_error}
use Rattle.abc_lines.proofs.limits.limit_error.Given as goal

-- how many lines came, none of which is refused, and the rest
abbrev pub invariant-lines : goal.invariant-lines
invariant-lines l =
    (l.count + length l.rest ≤ l.fn.others + length l.fn.text)
    × (limit_error (list_all is_line (lines_in l.rest)) (l.count + length (lines_in l.rest)) ≡ limit_error (list_all is_line (lines_in l.fn.text)) (l.fn.others + length (lines_in l.fn.text)))

abbrev pub decreases-lines : goal.decreases-lines
decreases-lines l = length l.rest
