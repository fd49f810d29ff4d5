use Rattle.std.proofs.lemmas.List.Elements.{All-push}
use Rattle.abc_fold.specs.Piece.{IsKept}
use Rattle.tests.proofs.kept_runs.append_kept.Goals as goal

pub loop-i-preserved : goal.loop-i-preserved
loop-i-preserved g c = λ steps opening laws folds old.
    rw c.in_ok-push.ensures.items (All-push (IsKept steps) c.loop-i.pieces.items c.in_ok-piece.piece
    (c.loop-i.invariant steps opening laws folds old) (c.in_ok-piece.ensures.resumable steps opening laws folds))

pub loop-i-init : goal.loop-i-init
loop-i-init g c = λ steps opening laws folds old. old
