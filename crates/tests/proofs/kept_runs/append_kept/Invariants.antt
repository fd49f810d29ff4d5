use Rattle.std.proofs.Common.{All}
use Rattle.abc_fold.specs.Chain.{Folds}
use Rattle.abc_fold.specs.Piece.{IsKept}
use Rattle.abc_fold.specs.Steps.{Steps, IsResumable}
use Rattle.tests.proofs.kept_runs.append_kept.Given as goal

abbrev pub invariant-loop-i : goal.invariant-loop-i
invariant-loop-i g l =
    (steps : Steps g.row.F-State.Denot g.row.F-Cell.Denot g.row.F-Items.Denot) (opening : g.row.F-State.Denot) → IsResumable steps → Folds steps opening l.chain
    → All (IsKept steps) l.initial.pieces.items → All (IsKept steps) l.pieces.items
