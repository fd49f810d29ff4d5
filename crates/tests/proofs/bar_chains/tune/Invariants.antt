use Rattle.std.proofs.Common.{All}
use Rattle.abc_bars_body.specs.SameEntry.{bar_steps}
use Rattle.abc_fold.specs.Piece.{IsKept}
use Rattle.tests.proofs.bar_chains.tune.Given as goal

-- no pieces yet
abbrev pub invariant-loop-line : goal.invariant-loop-line
invariant-loop-line g l = All (IsKept bar_steps) l.pieces.items
