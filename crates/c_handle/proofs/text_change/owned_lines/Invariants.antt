use Rattle.std.proofs.Common.{◌≡◌, take}
use Rattle.abc_lines.specs.Text.{lines_of, seen_lines}
use Rattle.c_handle.proofs.text_change.owned_lines.Given as goal

-- the copies so far
abbrev pub invariant-loop-line : goal.invariant-loop-line
invariant-loop-line l = lines_of l.copies.items ≡ seen_lines (take l.line-index l.lines)
