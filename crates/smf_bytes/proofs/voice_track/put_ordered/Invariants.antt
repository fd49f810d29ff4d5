use Rattle.std.proofs.Common.{◌≡◌, ◌<◌, ◌++◌, ◌^◌, length, map}
use Rattle.abc_time.specs.Grains.{tick_at}
use Rattle.smf_bytes.specs.Voice.{event_at}
use Rattle.smf_bytes.specs.Order.{in_order}
use Rattle.smf_bytes.specs.Track.{Follows, tick_after, timed_events}
use Rattle.smf_bytes.proofs.voice_track.put_ordered.Given as goal

-- the events that are left
abbrev pub invariant-loop-left : goal.invariant-loop-left
invariant-loop-left l =
    record {
      written : l.out ++ timed_events l.at (map (event_at l.channel) l.left) ≡ l.fn.out ++ timed_events l.before (in_order (map (event_at l.channel) l.fn.events.items));
      last : tick_after l.at (map (event_at l.channel) l.left) ≡ tick_after l.before (in_order (map (event_at l.channel) l.fn.events.items));
      follows : Follows (tick_at l.fn.end.0) l.at (map (event_at l.channel) l.left);
      fits : tick_at l.fn.end.0 < 2 ^ 28;
    }

abbrev pub decreases-loop-left : goal.decreases-loop-left
decreases-loop-left l = length l.left
