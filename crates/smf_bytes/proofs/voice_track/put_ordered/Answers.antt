use Rattle.std.proofs.Common.{◌≡◌, List, [], ◌++◌, arith, map, subst, sym, ap, ◌∙◌}
use Rattle.std.proofs.lemmas.List.{append-nil, nil_from_length}
use Rattle.abc_time.specs.Grains.{tick_at}
use Rattle.smf_bytes.specs.declared.voice_event.VoiceEvent.{VoiceEvent}
use Rattle.smf_bytes.specs.Order.{in_order}
use Rattle.smf_bytes.specs.Voice.{event_at}
use Rattle.smf_bytes.specs.Track.{Follows, tick_after, timed_events}
use Rattle.smf_bytes.proofs.Timed.{tick_fits}
use Rattle.smf_bytes.proofs.voice_track.put_ordered.Goals as goal

pub loop-left-init : goal.loop-left-init
loop-left-init c =
    let f = event_at c.args.channel in
    let left = c.as_slice-left.result.now in
    let same : map f left ≡ in_order (map f c.args.events.items) = ap (map f) c.as_slice-left.ensures.value ∙ c.in_ok-ordered.ensures.exact c.args.channel in
    record {
      written = ap (λ l. c.args.out.now ++ timed_events c.args.before l) same;
      last = ap (tick_after c.args.before) same;
      follows = subst (Follows (tick_at c.args.end.0) c.args.before) (sym same) c.requires.in_time;
      fits = tick_fits c.args.end.0 c.requires.end;
    }

pub returns-clause-bytes : goal.returns-clause-bytes
returns-clause-bytes c =
    let body = c.loop-left.out in
    let done : c.loop-left.left.now ≡ [] = nil_from_length c.loop-left.left.now (omega (arith, c.in_default.len_below)) in
    sym (append-nil body) ∙ ap (λ (l : List VoiceEvent). body ++ timed_events c.loop-left.at (map (event_at c.args.channel) l)) (sym done) ∙ c.loop-left.invariant.written

pub returns-clause-last : goal.returns-clause-last
returns-clause-last c =
    let done : c.loop-left.left.now ≡ [] = nil_from_length c.loop-left.left.now (omega (arith, c.in_default.len_below)) in
    ap (λ (l : List VoiceEvent). tick_after c.loop-left.at (map (event_at c.args.channel) l)) (sym done) ∙ c.loop-left.invariant.last
