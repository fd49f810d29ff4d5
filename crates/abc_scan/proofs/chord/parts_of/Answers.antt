use Rattle.std.proofs.Common.{◌≡◌, ◌+◌, ◌++◌, ap, false, arith}
use Rattle.abc_scan.specs.Chord.{part_reader, parts_of}
use Rattle.abc_scan.specs.Cutting.{cutting_from}
use Rattle.abc_scan.proofs.Closings.{absent_after, front_inside}
use Rattle.abc_scan.proofs.Cuttings.{cut_more}
use Rattle.abc_scan.proofs.chord.parts_of.Goals as goal

pub loop-at-preserved : goal.loop-at-preserved
loop-at-preserved c =
    let text = c.args.text.now in
    let at = c.loop-at.at in
    let part = c.next_part-kind.result in
    let told = c.next_part-kind.ensures in
    let sum : 1 + (at + part.1) ≡ 1 + at + part.1 = omega arith in
    record {
      inside = front_inside text at part.1 c.loop-at.invariant.inside told.front;
      known = absent_after c.next_part-kind.new.absent text at part.1 told.front told.absent;
      cut = cut_more part_reader false text c.loop-at.parts.items _ _ (1 + at) (1 + (at + part.1)) at part sum c.loop-at-test.true told.front
          told.value c.in_ok-push.ensures.items c.loop-at.invariant.cut;
    }

pub loop-at-init : goal.loop-at-init
unfolding parts_of
loop-at-init c = record {
  inside = omega arith;
  known = c.none-absent.ensures c.args.text.now;
  cut = ap (λ l. l ++ cutting_from part_reader false 1 0 c.args.text.now) c.new-parts.ensures.items;
}
