use Rattle.std.proofs.Common.{◌<◌, ◌^◌}
use Rattle.std.specs.Prelude.{IfSome}
use Rattle.abc_publish.specs.Publisher.{maps_of}
use Rattle.abc2midi_live.specs.Building.{stage, IsIdle}
use Rattle.abc2midi_live.proofs.Pending.{build_seen, StoresSoFar, left_from}
use Rattle.abc2midi_live.proofs.build_command.build.Given as goal

-- what has been stored so far
abbrev pub invariant-loop-next : goal.invariant-loop-next
invariant-loop-next g l =
    let seen = g.S.Store.seen in
    record {
      stored : StoresSoFar l.session.text (maps_of l.fn.publisher).directory (seen l.fn.store)
          (stage (maps_of l.publisher).directory l.next) (build_seen l.text.items (seen l.store));
      idle : IsIdle (maps_of l.publisher);
      small : IfSome l.next (λ n. n < 2 ^ 32);
    }

abbrev pub decreases-loop-next : goal.decreases-loop-next
decreases-loop-next g l = left_from l.next
