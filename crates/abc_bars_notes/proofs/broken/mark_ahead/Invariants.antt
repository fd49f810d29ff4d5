use Rattle.std.proofs.Common.{◌≡◌, drop}
use Rattle.abc_bars_notes.specs.Broken.{mark_ahead}
use Rattle.abc_bars_notes.proofs.broken.mark_ahead.Given as goal

-- the rest answers as the whole does
abbrev pub invariant-loop-i : goal.invariant-loop-i
invariant-loop-i l = mark_ahead (drop l.i l.tokens) ≡ mark_ahead l.tokens
