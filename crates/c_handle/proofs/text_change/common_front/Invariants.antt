use Rattle.std.proofs.Common.{◌≡◌, ◌≤◌, ◌-◌, length, take}
use Rattle.abc_lines.specs.Text.{seen_lines}
use Rattle.c_handle.proofs.text_change.common_front.Given as goal

-- the lines so far are the same
abbrev pub invariant-loop-front : goal.invariant-loop-front
invariant-loop-front l = record {
  old : l.front ≤ length l.session.text;
  new : l.front ≤ length l.lines;
  same : take l.front l.session.text ≡ take l.front (seen_lines l.lines);
}

abbrev pub decreases-loop-front : goal.decreases-loop-front
decreases-loop-front l = length l.lines - l.front
