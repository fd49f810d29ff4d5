use Rattle.std.proofs.Common.{ℕ, List, Option, Some, sym, subst, arith}
use Rattle.abc_publish.specs.Publisher.{maps_of}
use Rattle.abc2midi_live_protocol.specs.Answer.{end_line}
use Rattle.abc2midi_live.specs.Building.{stage}
use Rattle.abc2midi_live.proofs.Pending.{build_seen, StoresSoFar, so_far_none, so_far_more, so_far_all, so_far_stops, stops_first}
use Rattle.abc2midi_live.proofs.Pending.{left_fewer, left_small}
use Rattle.abc2midi_live.proofs.Storing.{on_err}
use Rattle.abc2midi_live.proofs.build_command.build.Goals as goal

pub loop-next-init : goal.loop-next-init
loop-next-init g c =
    let directory = (maps_of c.args.publisher.now).directory in
    let seen = g.S.Store.seen c.args.store.now in
    record {
      stored = subst (λ (t : List ℕ). StoresSoFar c.args.session.now.text directory seen (stage directory (Some 0))
          (build_seen t seen)) (sym c.new-text.ensures.items) (so_far_none c.args.session.now.text directory seen);
      idle = c.requires;
      small = omega arith;
    }

pub store_next-requires : goal.store_next-requires
store_next-requires g c = c.loop-next.invariant.idle

pub loop-next-smaller : goal.loop-next-smaller
loop-next-smaller g c = left_fewer c.loop-next.next c.in_ok-next.next c.in-Some.from c.in-Some.is c.loop-next.invariant.small c.in_ok-next.ensures.onward

pub loop-next-preserved : goal.loop-next-preserved
loop-next-preserved g c = record {
  stored = so_far_more c.args.session.now.text (maps_of c.args.publisher.now).directory (maps_of c.loop-next.publisher)
      (maps_of c.store_next.new.publisher) c.loop-next.text.items c.store_next.new.text.items _ _ _
      c.loop-next.next c.in-Some.from c.in_ok-next.next c.in-Some.is c.loop-next.invariant.stored c.in_ok-next.ensures.stored;
  idle = c.store_next.ensures.idle;
  small = left_small c.in_ok-next.next c.in-Some.from c.in_ok-next.ensures.onward;
}

pub returns-clause-answer : goal.returns-clause-answer
unfolding end_line
returns-clause-answer g c =
    so_far_all c.args.session.now.text (maps_of c.args.publisher.now).directory
    (maps_of c.loop-next.publisher).directory c.loop-next.text.items c.extend_from_slice.new.self.items _ _ c.loop-next.next c.in_default.is
    c.in_ok-extend_from_slice.ensures.items c.loop-next.invariant.stored

pub returns-clause-idle : goal.returns-clause-idle
returns-clause-idle g c = c.loop-next.invariant.idle

pub returns-in_err-extend_from_slice-clause-idle : goal.returns-in_err-extend_from_slice-clause-idle
returns-in_err-extend_from_slice-clause-idle g c = c.loop-next.invariant.idle

pub returns-in_err-next-clause-idle : goal.returns-in_err-next-clause-idle
returns-in_err-next-clause-idle g c = c.store_next.ensures.idle

pub returns-in_err-next-clause-stop : goal.returns-in_err-next-clause-stop
returns-in_err-next-clause-stop g c =
    let seen = g.S.Store.seen in
    let text = c.args.session.now.text in
    let first = (maps_of c.args.publisher.now).directory in
    let d = (maps_of c.loop-next.publisher).directory in
    let so_far = subst (λ (o : Option ℕ). StoresSoFar text first (seen c.args.store.now) (stage d o)
    (build_seen c.loop-next.text.items (seen c.loop-next.store))) c.in-Some.is c.loop-next.invariant.stored in
    on_err c.from_residual.result _
    (so_far_stops text first d c.loop-next.text.items (seen c.args.store.now) (seen c.loop-next.store) (seen c.store_next.new.store) (Some c.in-Some.from) so_far c.in_err-next.ensures.stop.0)

pub returns-in_err-extend_from_slice-clause-stop : goal.returns-in_err-extend_from_slice-clause-stop
returns-in_err-extend_from_slice-clause-stop g c =
    let seen = g.S.Store.seen in
    let text = c.args.session.now.text in
    let d = (maps_of c.loop-next.publisher).directory in
    on_err c.from_residual-in_err-extend_from_slice.result _
    (so_far_stops text (maps_of c.args.publisher.now).directory d c.loop-next.text.items (seen c.args.store.now)
    (seen c.loop-next.store) (seen c.loop-next.store) c.loop-next.next c.loop-next.invariant.stored
    (stops_first text (stage d c.loop-next.next) (seen c.loop-next.store)).0)
