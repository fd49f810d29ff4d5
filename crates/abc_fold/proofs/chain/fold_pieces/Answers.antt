use Rattle.std.proofs.Common.{refl, ap, arith}
use Rattle.abc_fold.specs.Piece.{steps_needed}
use Rattle.abc_fold.proofs.Raised.{raised-none}
use Rattle.abc_fold.proofs.Folding.{ahead_start, ahead_next, ahead_done, cells_done, within_start, within_next, within_exit, within_raised}
use Rattle.abc_fold.proofs.Following.{known_taken, left_following, none_left}
use Rattle.abc_fold.proofs.chain.fold_pieces.Goals as goal

pub is_taken-is_reused-requires : goal.is_taken-is_reused-requires
is_taken-is_reused-requires g c = λ known.
    let steps = g.F.Fold.steps c.args.fold.now in
    known_taken steps (g.met.F.Fold.resumable c.args.fold.now) c.args.pieces.now c.args.marks.now c.loop-i.i c.loop-i.state
    c.index-pieces-i.result c.requires.marked c.index-pieces-i.is c.loop-i-test.true (c.is_known-known.ensures.marked known) (c.loop-i.invariant.left (c.is_known-known.ensures.before known))

pub loop-i-init : goal.loop-i-init
loop-i-init g c =
    let same = c.in_ok-state.ensures in
    record {
      ahead = rw (ap (λ l. l.items) c.in_ok-states.ensures.empty, ap (λ l. l.items) c.in_ok-cells.ensures.empty, ap (λ l. l.items) c.in_ok-items.ensures.empty, same)
          (ahead_start (g.F.Fold.steps c.args.fold.now) c.args.opening.now c.args.pieces.now (g.met.F.Fold.resumable c.args.fold.now) c.args.opening.now refl);
      left = none_left c.args.pieces.now 0 c.in_ok-state.state;
      rooms = (omega (arith, ap (λ l. l.room) c.in_ok-states.ensures.empty), omega (arith, ap (λ l. l.room) c.in_ok-cells.ensures.empty), omega (arith, ap (λ l. l.room) c.in_ok-items.ensures.empty));
      within = rw same (within_start (g.F.Work.Counts.counts c.args.work.now) (steps_needed (g.F.Fold.steps c.args.fold.now) c.args.opening.now c.args.pieces.now));
    }

pub returns-in_err-left-clause-counted : goal.returns-in_err-left-clause-counted
returns-in_err-left-clause-counted g c =
    within_exit (g.F.Fold.steps c.args.fold.now) c.args.opening.now c.args.pieces.now c.loop-i.i c.loop-i.state c.index-pieces-i.result _ _ _ _
    c.loop-i.invariant.within c.index-pieces-i.is c.loop-i-test.true c.pass_piece.ensures.counted

pub push-requires : goal.push-requires
push-requires g c = omega (arith, c.loop-i.invariant.rooms.0, c.loop-i-test.true)

pub push-requires-in-loop-i : goal.push-requires-in-loop-i
push-requires-in-loop-i g c = omega (arith, c.loop-i.invariant.rooms.1, c.loop-i-test.true)

pub push-requires-in-loop-i-2 : goal.push-requires-in-loop-i-2
push-requires-in-loop-i-2 g c = omega (arith, c.loop-i.invariant.rooms.2, c.loop-i-test.true)

pub loop-i-preserved : goal.loop-i-preserved
loop-i-preserved g c =
    let laws = g.met.F.Fold.resumable c.args.fold.now in
    let alike = c.in_ok-left.ensures.state_after in
    record {
      ahead = rw (c.push.ensures.items, c.push-in-loop-i.ensures.items, c.push-in-loop-i-2.ensures.items)
          (ahead_next (g.F.Fold.steps c.args.fold.now) c.args.opening.now c.args.pieces.now laws c.loop-i.i c.loop-i.state c.in_ok-left.left c.index-pieces-i.result
          c.loop-i.states.items c.loop-i.cells.items c.loop-i.items.items c.in_ok-cell.cell c.in_ok-left.given
          c.loop-i.invariant.ahead c.index-pieces-i.is c.loop-i-test.true alike c.in_ok-cell.ensures c.in_ok-left.ensures.items);
      left = λ taken. left_following c.args.pieces.now c.loop-i.i c.index-pieces-i.result c.in_ok-left.left c.index-pieces-i.is c.loop-i-test.true (c.in_ok-left.ensures.left taken);
      rooms = (
        omega (arith, c.loop-i.invariant.rooms.0, c.push.ensures.room, c.loop-i-test.true),
        omega (arith, c.loop-i.invariant.rooms.1, c.push-in-loop-i.ensures.room, c.loop-i-test.true),
        omega (arith, c.loop-i.invariant.rooms.2, c.push-in-loop-i-2.ensures.room, c.loop-i-test.true),
      );
      within = within_next (g.F.Fold.steps c.args.fold.now) c.args.opening.now c.args.pieces.now laws c.loop-i.i c.loop-i.state c.in_ok-left.left c.index-pieces-i.result
          (g.F.Work.Counts.counts c.args.work.now) (g.F.Work.Counts.counts c.loop-i.work) (g.F.Work.Counts.counts c.pass_piece.new.work)
          (steps_needed (g.F.Fold.steps c.args.fold.now) c.args.opening.now c.args.pieces.now)
          c.loop-i.invariant.within c.index-pieces-i.is c.loop-i-test.true alike c.pass_piece.ensures.counted;
    }

pub returns-in_err-states-clause-counted : goal.returns-in_err-states-clause-counted
returns-in_err-states-clause-counted g c = raised-none _ _

pub returns-in_err-cells-clause-counted : goal.returns-in_err-cells-clause-counted
returns-in_err-cells-clause-counted g c = raised-none _ _

pub returns-in_err-items-clause-counted : goal.returns-in_err-items-clause-counted
returns-in_err-items-clause-counted g c = raised-none _ _

pub returns-in_err-state-clause-counted : goal.returns-in_err-state-clause-counted
returns-in_err-state-clause-counted g c = raised-none _ _

pub returns-in_err-cell-clause-counted : goal.returns-in_err-cell-clause-counted
returns-in_err-cell-clause-counted g c = within_raised _ _ _ _ c.loop-i.invariant.within

pub push-requires-2 : goal.push-requires-2
push-requires-2 g c = omega (arith, c.loop-i.invariant.rooms.0, c.loop-i-test.false)

pub returns-clause-counted : goal.returns-clause-counted
returns-clause-counted g c = within_raised _ _ _ _ c.loop-i.invariant.within

pub returns-clause-cells : goal.returns-clause-cells
returns-clause-cells g c =
    cells_done (g.F.Fold.steps c.args.fold.now) c.args.opening.now c.args.pieces.now c.loop-i.i c.loop-i.state
    c.loop-i.states.items c.loop-i.cells.items c.loop-i.items.items c.loop-i-test.false c.loop-i.invariant.ahead

pub returns-clause-folds : goal.returns-clause-folds
returns-clause-folds g c =
    rw c.push-2.ensures.items (ahead_done (g.F.Fold.steps c.args.fold.now) c.args.opening.now c.args.pieces.now c.loop-i.i c.loop-i.state
    c.loop-i.states.items c.loop-i.cells.items c.loop-i.items.items c.loop-i-test.false c.loop-i.invariant.ahead)

pub returns-in_default-clause-counted : goal.returns-in_default-clause-counted
returns-in_default-clause-counted g c = raised-none _ _
