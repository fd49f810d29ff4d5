use Rattle.std.proofs.Common.{◌≡◌, [], ◌∷◌, ◌++◌}
use Rattle.std.specs.Prelude.{drop}
use Rattle.smf_bytes.specs.Event.{end_event}
use Rattle.smf_bytes.specs.Track.{Follows, timed_events}
use Rattle.smf_bytes.proofs.track.put_events.Given as goal

abbrev pub invariant-loop-event : goal.invariant-loop-event
invariant-loop-event l =
    record {
      written : l.out.items ++ timed_events l.before (drop l.event-index l.event-items ++ end_event l.end ∷ []) ≡ l.fn.out.items ++ timed_events 0 (l.event-items ++ end_event l.end ∷ []);
      follows : Follows l.end l.before (drop l.event-index l.event-items);
    }
