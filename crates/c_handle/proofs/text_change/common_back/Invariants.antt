use Rattle.std.proofs.Common.{◌≡◌, ◌≤◌, ◌-◌, length, drop}
use Rattle.abc_lines.specs.Text.{seen_lines}
use Rattle.c_handle.proofs.text_change.common_back.Given as goal

-- the lines so far are the same
abbrev pub invariant-loop-back : goal.invariant-loop-back
invariant-loop-back l = record {
  inside : l.back ≤ l.most;
  same : drop (length l.session.text - l.back) l.session.text ≡ drop (length l.lines - l.back) (seen_lines l.lines);
}

abbrev pub decreases-loop-back : goal.decreases-loop-back
decreases-loop-back l = l.most - l.back
