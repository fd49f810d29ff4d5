use Rattle.std.proofs.Common.{ℕ, List, sym, ap, ◌∙◌, subst}
use Rattle.std.specs.List.Sorted.{IsStrictlyIncreasing}
use Rattle.abc_live_index.proofs.ClaimSteps.{came_count}
use Rattle.abc_live_index.proofs.Lists.{ok_both}
use Rattle.abc_live_index.proofs.FileReports.{AreFound, found_more, found_none, found_same, found_sorted, keys_of-stay}
use Rattle.abc_live_index.specs.TuneChange.{new_outputs, old_outputs}
use Rattle.abc_live_index.specs.Owners.{Owners, owners_of}
use Rattle.abc_live_index.specs.Report.{changed_number_at}
use Rattle.abc_tune_compiler.specs.Sort.{sort_dedup}
use Rattle.std.specs.Ordering.{nat_cmp}
use Rattle.abc_live_index.proofs.report.changed_numbers.Goals.{in_default, in-Some+in_ok-push}
use Rattle.abc_live_index.proofs.report.changed_numbers.Goals as goal

pub loop-place-init : goal.loop-place-init
loop-place-init c =
    let old = old_outputs c.args.change.now in
    let new = new_outputs c.args.change.now in
    subst (λ (l : List ℕ). AreFound old new (owners_of old) c.args.change.now.tunes.from c.args.change.now.tunes.from l)
    (sym c.new-found.ensures.items) (found_none old new (owners_of old) c.args.change.now.tunes.from)

pub loop-place-preserved : goal.loop-place-preserved
loop-place-preserved c =
    let old = old_outputs c.args.change.now in
    let new = new_outputs c.args.change.now in
    let owns = ap (λ (o : Owners). changed_number_at old new o c.loop-place.place) c.requires.owners in
    elim c.match-changed_number_at.branch [
      | in-Some+in_ok-push w ↦
          found_more old new (owners_of old) c.args.change.now.tunes.from c.loop-place.place w.in-Some.number c.loop-place.found.items c.match-changed_number_at.found.items c.loop-place.auto.place
          (sym (c.changed_number_at.ensures ∙ owns) ∙ w.in-Some.is) (ap (λ v. v.items) w.found-is ∙ w.in_ok-push.ensures.items) c.loop-place.invariant
      | in_default w ↦
          rw (w.found-is) (found_same old new (owners_of old) c.args.change.now.tunes.from c.loop-place.place c.loop-place.found.items (sym (w.in_default.ensures ∙ owns)) c.loop-place.invariant)
    ]

pub returns : goal.returns
returns c =
    let s = c.args.change.now in
    let old = old_outputs s in
    let new = new_outputs s in
    let r = c.requires.change in
    let count = came_count old new s.tunes.from s.tunes.came s.tunes.to c.requires.claims r.order r.inside r.count in
    let rises = subst IsStrictlyIncreasing (keys_of-stay old new c.requires.claims c.args.owners.now c.requires.owners) c.requires.rise in
    ok_both c.sort_dedup.result _ _ _ (λ sorted is ordered.
    found_sorted old new c.requires.claims s.tunes.from s.tunes.came s.tunes.to c.loop-place.place r.order count
    c.loop-place-test.false r.front r.following c.loop-place.found.items sorted.items c.loop-place.invariant rises ordered (is ∙ ap (sort_dedup nat_cmp) c.deref.ensures.value))
    c.sort_dedup.ensures.value c.sort_dedup.ensures.rises
