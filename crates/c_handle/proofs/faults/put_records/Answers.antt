use Rattle.std.proofs.Common.{◌++◌, drop, map, slice_set, take, sym, ap, ap₂, ◌∙◌, add-one}
use Rattle.c_handle.specs.Faults.{record_of}
use Rattle.c_handle.proofs.Puts.{put-next}
use Rattle.c_handle.proofs.faults.put_records.Goals as goal

pub loop-at-preserved : goal.loop-at-preserved
loop-at-preserved c =
    let at = c.loop-at.at in
    ap₂ (λ records one. slice_set records at one) c.loop-at.invariant c.of.ensures.value
    ∙ put-next record_of c.args.faults.now c.args.records.now at _ c.loop-at-test.true c.requires
    ∙ ap (λ k. map record_of (take k c.args.faults.now) ++ drop k c.args.records.now) (sym (add-one at))
