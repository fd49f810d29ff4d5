use Rattle.std.proofs.Common.{◌≡◌, ◌<◌, min, IfOk, subst}
use Rattle.abc_repeat.specs.declared.play.TheConstants.{MOST_PLACES}
use Rattle.abc_voices_sections.proofs.Played.{items_played-in_place, items_played-in_order, length-items, sized}
use Rattle.abc_voices_sections.proofs.play.played_items.Goals as goal

pub returns-then-not-has_waiting_item-clause-value : goal.returns-then-not-has_waiting_item-clause-value
returns-then-not-has_waiting_item-clause-value g c =
    let item_of = g.T.AsItem.item_of in
    let same = items_played-in_place item_of c.args.part.items _ _ _ _ _ c.deref-2.ensures.value c.deref-3.ensures.value
    c.deref-then-not-has_waiting_item.ensures.value c.in_ok-found.ensures c.has_waiting_item.ensures c.if-not-has_waiting_item.true in
    subst (λ played. IfOk c.expand_item_runs.result (λ items. items.items ≡ played)) same c.expand_item_runs.ensures.value

pub returns-then-not-has_waiting_item-clause-size : goal.returns-then-not-has_waiting_item-clause-size
returns-then-not-has_waiting_item-clause-size g c =
    let item_of = g.T.AsItem.item_of in
    let same = items_played-in_place item_of c.args.part.items _ _ _ _ _ c.deref-2.ensures.value c.deref-3.ensures.value
    c.deref-then-not-has_waiting_item.ensures.value c.in_ok-found.ensures c.has_waiting_item.ensures c.if-not-has_waiting_item.true in
    sized item_of c.expand_item_runs.result c.args.part.items _ same c.expand_item_runs.ensures.value

pub returns-then-not-has_waiting_item-clause-too_long : goal.returns-then-not-has_waiting_item-clause-too_long
returns-then-not-has_waiting_item-clause-too_long g c =
    λ late.
    let item_of = g.T.AsItem.item_of in
    let same = items_played-in_place item_of c.args.part.items _ _ _ _ _ c.deref-2.ensures.value c.deref-3.ensures.value
    c.deref-then-not-has_waiting_item.ensures.value c.in_ok-found.ensures c.has_waiting_item.ensures c.if-not-has_waiting_item.true in
    subst (λ count. min c.args.room MOST_PLACES < count) (length-items item_of c.args.part.items _ same) (c.expand_item_runs.ensures.too_long late)

pub returns-clause-value : goal.returns-clause-value
returns-clause-value g c =
    let item_of = g.T.AsItem.item_of in
    let same = items_played-in_order item_of c.args.part.items _ _ _ _ _ c.deref-4.ensures.value c.in_ok-steps.ensures c.deref-5.ensures.value c.deref-6.ensures.value c.in_ok-found-2.ensures in
    subst (λ played. IfOk c.expand_item_runs-2.result (λ items. items.items ≡ played)) same c.expand_item_runs-2.ensures.value

pub returns-clause-size : goal.returns-clause-size
returns-clause-size g c =
    let item_of = g.T.AsItem.item_of in
    let same = items_played-in_order item_of c.args.part.items _ _ _ _ _ c.deref-4.ensures.value c.in_ok-steps.ensures c.deref-5.ensures.value c.deref-6.ensures.value c.in_ok-found-2.ensures in
    sized item_of c.expand_item_runs-2.result c.args.part.items _ same c.expand_item_runs-2.ensures.value

pub returns-clause-too_long : goal.returns-clause-too_long
returns-clause-too_long g c =
    λ late.
    let item_of = g.T.AsItem.item_of in
    let same = items_played-in_order item_of c.args.part.items _ _ _ _ _ c.deref-4.ensures.value c.in_ok-steps.ensures c.deref-5.ensures.value c.deref-6.ensures.value c.in_ok-found-2.ensures in
    subst (λ count. min c.args.room MOST_PLACES < count) (length-items item_of c.args.part.items _ same) (c.expand_item_runs-2.ensures.too_long late)
