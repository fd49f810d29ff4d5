use Rattle.std.proofs.Common.{sym, subst}
use Rattle.abc_fold.specs.Following.{FollowsLast}
use Rattle.abc_fold.proofs.Following.{marked_more}
use Rattle.abc_fold.proofs.pieces.Pieces.put.Goals as goal

pub invariant_of-self-in-Ok : goal.invariant_of-self-in-Ok
invariant_of-self-in-Ok g c =
    rw (c.in-Ok.ensures.items, c.in_ok-push.ensures.items)
    (marked_more c.self.inside.pieces.items c.self.inside.marks.items c.args.piece c.args.follows c.self.invariant
    (λ follows. subst (λ pieces. FollowsLast pieces c.args.piece) (sym c.self.view_is) (c.requires follows)))
