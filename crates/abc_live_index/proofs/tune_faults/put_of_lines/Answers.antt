use Rattle.std.proofs.Common.{ℕ, ◌+◌, drop, get_or, refl, arith}
use Rattle.std.proofs.lemmas.List.Sums.{sum_by-drop_more}
use Rattle.abc_live_index.proofs.Fronts.{front_both}
use Rattle.abc_live_index.proofs.OutputLists.{lines_on, one_count, put_more}
use Rattle.abc_live_index.proofs.tune_faults.put_of_lines.Goals as goal

pub loop-at-preserved : goal.loop-at-preserved
loop-at-preserved g c =
    let rf = (g.C.Compiler.rules c.args.compiler.now).faults in
    let count = get_or c.args.counts.now c.loop-at.at 0 in
    let split = lines_on rf c.args.chain.now.items (c.args.first + c.loop-at.at) (c.args.first + (c.loop-at.at + 1)) c.loop-at.from (c.loop-at.from + count) count
    (drop (c.loop-at.at + 1) c.args.counts.now) (drop c.loop-at.at c.args.counts.now) (one_count c.args.counts.now c.loop-at.at c.loop-at-test.true) refl (omega arith) in
    let sums = sum_by-drop_more (λ (count : ℕ). count) c.args.counts.now c.loop-at.at 0 c.loop-at-test.true in
    record {
      put = put_more c.loop-at.faults.items _ _ _ _ _ c.in_ok-put_of_line.ensures.ok split c.loop-at.invariant.put;
      inside = omega (arith, sums, c.loop-at.invariant.inside);
      front = front_both c.args.faults.now.items c.loop-at.faults.items _ c.loop-at.invariant.front c.in_ok-put_of_line.ensures.front;
    }
