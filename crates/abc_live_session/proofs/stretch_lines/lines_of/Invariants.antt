use Rattle.std.proofs.Common.{◌≡◌, drop, take}
use Rattle.abc_lines.specs.Text.{seen_lines, spliced}
use Rattle.abc_live_text.specs.ItemSplice.{splice_in}
use Rattle.abc_live_session.proofs.stretch_lines.lines_of.Given as goal

-- the lines so far are there
abbrev pub invariant-loop-nth : goal.invariant-loop-nth
invariant-loop-nth l = seen_lines l.lines.items ≡ take l.nth (drop l.stretch.lines.from (spliced l.text.text (splice_in l.splice)))
