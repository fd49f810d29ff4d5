use Rattle.std.proofs.Common.{◌≡◌, Some, ap, sym, ◌∙◌, length, subst, take, arith}
use Rattle.abc_live_index.specs.StayInFront.{StayInFront}
use Rattle.abc_live_index.proofs.Fronts.{front_both}
use Rattle.abc_live_index.proofs.Lists.{on_err, on_ok}
use Rattle.abc_live_index.proofs.OutputLists.{read_at}
use Rattle.abc_live_index.proofs.FaultPlaces.{cells_on, places_on}
use Rattle.abc_live_index.proofs.stretch_faults.put_tune_faults.Goals as goal

pub loop-place-preserved : goal.loop-place-preserved
loop-place-preserved g c =
    let rules = g.C.Compiler.rules c.args.compiler.now in
    let stretch = c.args.stretch.now in
    let there = read_at stretch.chains.now c.loop-place.place c.chain-item.result c.loop-place-test.true c.chain-item.is ∙ ap Some (sym c.get-chain.ensures) in
    let kept = c.in_ok-undo_if_refused.ensures.ok in
    let put = kept ∙ on_ok c.put_of_place-put.result _ (sym c.in_ok-undo_if_refused.ensures.same) c.put_of_place-put.ensures.ok in
    record {
      put = places_on rules stretch.before stretch.counts.now stretch.chains.now stretch.places.now c.loop-place.place
          c.get-chain.result.now there c.loop-place.invariant.cells _ c.loop-place.faults.items c.undo_if_refused.new.faults.items _
          put c.loop-place.invariant.put;
      cells = cells_on rules stretch.before stretch.counts.now stretch.chains.now stretch.places.now c.loop-place.place c.get-chain.result.now there c.loop-place.invariant.cells;
      front = front_both c.args.faults.now.items c.loop-place.faults.items c.undo_if_refused.new.faults.items c.loop-place.invariant.front
          (subst (StayInFront c.loop-place.faults.items) (sym kept) c.put_of_place-put.ensures.front);
    }

pub returns-in_err-undo_if_refused-clause-unchanged : goal.returns-in_err-undo_if_refused-clause-unchanged
returns-in_err-undo_if_refused-clause-unchanged g c =
    let count : c.len-count.result ≡ length c.args.faults.now.items = omega (arith, c.len-count.ensures, c.args.faults.now.ok.0) in
    let front : StayInFront c.args.faults.now.items c.put_of_place-put.new.faults.items =
    front_both c.args.faults.now.items c.loop-place.faults.items c.put_of_place-put.new.faults.items c.loop-place.invariant.front c.put_of_place-put.ensures.front in
    on_err c.from_residual.result (c.in_err-undo_if_refused.ensures.unchanged ∙ (ap (λ n. take n c.put_of_place-put.new.faults.items) count ∙ front))
