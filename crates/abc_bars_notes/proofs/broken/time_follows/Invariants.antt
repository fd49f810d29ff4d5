use Rattle.std.proofs.Common.{◌≡◌, drop}
use Rattle.abc_bars_notes.specs.Broken.{time_follows}
use Rattle.abc_bars_notes.proofs.broken.time_follows.Given as goal

-- the rest answers as the whole does
abbrev pub invariant-loop-token : goal.invariant-loop-token
invariant-loop-token l = time_follows (drop l.token-index l.tokens) ≡ time_follows l.tokens
