use Rattle.std.proofs.Common.{◌≡◌, List, ◌++◌, subst, sym}
use Rattle.std.specs.Prelude.{IfOk, OnOk}
use Rattle.abc_time.specs.Grains.{tick_at}
use Rattle.smf_bytes.specs.declared.event.Event.{Event}
use Rattle.smf_bytes.specs.Track.{Follows, tick_after, timed_events}
use Rattle.smf_bytes.proofs.Turned.{same_order}
use Rattle.smf_bytes.proofs.voice_track.put_together.Goals as goal

pub put_ordered-requires-clause-in_time : goal.put_ordered-requires-clause-in_time
put_ordered-requires-clause-in_time c =
    subst (Follows (tick_at c.args.music.end.0) c.args.before)
    (sym (same_order c.args.music.channel c.args.music.programs.now c.args.music.notes.now c.in_ok-events.events.items c.in_ok-events.ensures)) c.requires.in_time

pub returns-clause-bytes : goal.returns-clause-bytes
returns-clause-bytes c =
    subst (λ (l : List Event). OnOk c.put_ordered.result (c.put_ordered.new.out ≡ c.args.out.now ++ timed_events c.args.before l))
    (same_order c.args.music.channel c.args.music.programs.now c.args.music.notes.now c.in_ok-events.events.items c.in_ok-events.ensures) c.put_ordered.ensures.bytes

pub returns-clause-last : goal.returns-clause-last
returns-clause-last c =
    subst (λ (l : List Event). IfOk c.put_ordered.result (λ last. last ≡ tick_after c.args.before l))
    (same_order c.args.music.channel c.args.music.programs.now c.args.music.notes.now c.in_ok-events.events.items c.in_ok-events.ensures) c.put_ordered.ensures.last
