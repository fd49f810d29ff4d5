use Rattle.std.proofs.Common.{◌≡◌, drop, map, take}
use Rattle.abc_live_session.specs.Prepared.{count_in}
use Rattle.abc_live_session.proofs.stretch_lines.counts_of.Given as goal

-- the counts so far
abbrev pub invariant-loop-nth : goal.invariant-loop-nth
invariant-loop-nth g l = l.counts.items ≡ map count_in (take l.nth (drop l.stretch.lines.from l.text_patch.rows))
