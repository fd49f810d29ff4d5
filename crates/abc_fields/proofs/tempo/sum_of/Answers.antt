use Rattle.std.proofs.Common.{sym, ◌∙◌, ap, arith}
use Rattle.abc_fields.specs.Tempo.{add_fraction}
use Rattle.abc_fields.proofs.BeatSums.{sum_of-none, sum_of-last, sum_of-more, sum_of-end, added-added, added-zero}
use Rattle.abc_fields.proofs.tempo.sum_of.Goals as goal

pub loop-init : goal.loop-init
loop-init c = record { value = added-zero _; range = omega arith }

pub returns-in_err-sum-clause-value : goal.returns-in_err-sum-clause-value
returns-in_err-sum-clause-value c =
    let e = sum_of-none c.loop.counter c.loop.rest.now c.split_word.result.0.now c.loop-test.true c.split_word.ensures.word c.in_err-sum.ensures.value in
    c.from_residual.ensures ∙ sym (ap (add_fraction c.loop.sum) e) ∙ c.loop.invariant.value

pub returns-then-is_empty-clause-value : goal.returns-then-is_empty-clause-value
returns-then-is_empty-clause-value c =
    let word = c.split_word.ensures.word in
    let following = c.split_word.ensures.following in
    let part = c.in_ok-sum.ensures.value in
    let e = sum_of-last c.loop.counter c.loop.rest.now c.split_word.result.0.now c.split_word.result.1.now c.in_ok-sum.field-0 c.loop-test.true word following part c.if-is_empty.ensures in
    sym (ap (add_fraction c.loop.sum) e) ∙ c.loop.invariant.value

pub loop-preserved : goal.loop-preserved
loop-preserved c =
    let word = c.split_word.ensures.word in
    let following = c.split_word.ensures.following in
    let part = c.in_ok-sum.ensures.value in
    let e = sum_of-more c.loop.counter c.loop.rest.now c.split_word.result.0.now c.split_word.result.1.now c.in_ok-sum.field-0 c.loop-test.true word following part c.if-is_empty.ensures in
    record {
      value = added-added c.loop.sum c.in_ok-sum.field-0 _ ∙ sym (ap (add_fraction c.loop.sum) e) ∙ c.loop.invariant.value;
      range = let part = c.in_ok-sum.ensures.range in let so_far = c.loop.invariant.range in omega (arith, part.1, so_far);
    }

pub returns-clause-value : goal.returns-clause-value
returns-clause-value c = sym (ap (add_fraction c.loop.sum) (sum_of-end c.loop.counter c.loop.rest.now c.loop-test.false)) ∙ c.loop.invariant.value
