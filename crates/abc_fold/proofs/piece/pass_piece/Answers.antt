use Rattle.abc_fold.proofs.Alike.{not_taken_cost}
use Rattle.abc_fold.proofs.Raised.{raised-none, raised-once}
use Rattle.abc_fold.proofs.piece.pass_piece.Goals as goal

pub returns-in-New-clause-state_after : goal.returns-in-New-clause-state_after
returns-in-New-clause-state_after g c = rw c.in-New.is c.take_step.ensures.state_after

pub returns-in-New-clause-items : goal.returns-in-New-clause-items
returns-in-New-clause-items g c = rw c.in-New.is c.take_step.ensures.items

pub returns-in-New-clause-counted : goal.returns-in-New-clause-counted
returns-in-New-clause-counted g c = rw c.in-New.is (raised-once _ _ c.take_step.ensures.counted)

pub returns-then-not-taken-clause-counted : goal.returns-then-not-taken-clause-counted
returns-then-not-taken-clause-counted g c =
    let steps = g.F.Fold.steps c.args.fold.now in
    rw (not_taken_cost steps c.args.state.now c.args.piece.now c.args.taken c.requires.taken c.if-not-taken.true)
    (raised-once _ _ c.take_step-then-not-taken.ensures.counted)

pub returns-in_err-copy_state-in-Kept-clause-counted : goal.returns-in_err-copy_state-in-Kept-clause-counted
returns-in_err-copy_state-in-Kept-clause-counted g c = raised-none _ _

pub returns-in_err-copy_items-in-Kept-clause-counted : goal.returns-in_err-copy_items-in-Kept-clause-counted
returns-in_err-copy_items-in-Kept-clause-counted g c = raised-none _ _

pub returns-in_ok-copy_items-in-Kept-clause-counted : goal.returns-in_ok-copy_items-in-Kept-clause-counted
returns-in_ok-copy_items-in-Kept-clause-counted g c = raised-none _ _
