use Rattle.std.proofs.Common.{◌≡◌, ℕ, List, [], ◌∷◌, ◌++◌, arith, drop, refl, subst, sym, ap, ◌∙◌}
use Rattle.std.specs.Prelude.{OnOk}
use Rattle.std.proofs.lemmas.List.{drop_all}
use Rattle.smf_bytes.specs.Order.{in_order}
use Rattle.smf_bytes.specs.Event.{end_event}
use Rattle.smf_bytes.specs.Track.{Follows, timed_events, track_body}
use Rattle.smf_bytes.proofs.Timed.{follows_sorted, closed}
use Rattle.smf_bytes.proofs.track.put_events.Goals as goal

pub loop-event-init : goal.loop-event-init
loop-event-init c =
    record {
      written = refl;
      follows =
          subst (Follows c.args.end 0) (sym c.deref-event-items.ensures.value)
          (follows_sorted c.args.end c.args.events.items c.in_ok-ordered.ordered.items c.requires.before_end
          c.in_ok-ordered.ensures.permutation c.in_ok-ordered.ensures.sorted);
    }

pub returns : goal.returns
unfolding track_body
returns c =
    let items = c.deref-event-items.result.now in
    let out = c.args.out.now.items in
    let whole = out ++ timed_events 0 (items ++ end_event c.args.end ∷ []) in
    let done : drop c.loop-event.event-index items ≡ [] = drop_all c.loop-event.event-index items (omega arith) in
    let shut =
    closed c.loop-event.out.items whole c.loop-event.before c.args.end c.args.end refl
    (ap (λ l. c.loop-event.out.items ++ timed_events c.loop-event.before (l ++ end_event c.args.end ∷ [])) (sym done) ∙ c.loop-event.invariant.written) in
    let same : items ≡ in_order c.args.events.items = c.deref-event-items.ensures.value ∙ c.in_ok-ordered.ensures.exact in
    subst (λ (l : List ℕ). OnOk c.put_end.result (c.put_end.new.out.items ≡ l))
    (shut ∙ ap (λ l. out ++ timed_events 0 (l ++ end_event c.args.end ∷ [])) same) c.put_end.ensures
