use borrow.Author.Tests.{tests}
use Rattle.std.proofs.Common.{rules, sym, ap, ◌∙◌, ◌==◌}
use Rattle.std.proofs.lemmas.Iterator.Splits.{YieldsList-from_slice_split}
use Rattle.abc_fields.proofs.Sums.{IsSummed-start, IsSummed-over, IsSummed-more, IsSummed-end}
use Rattle.abc_fields.proofs.meter.sum_of.Goals as goal

pub loop-word-init : goal.loop-word-init
loop-word-init c =
    let same = c.into_iter-word-iterator.ensures.into_iter_gives in
    let rest = ap (λ s. s.rest.now) same ∙ c.split-word-items.ensures.rest in
    let done = ap (λ s. s.done) same ∙ c.split-word-items.ensures.done in
    IsSummed-start _ c.into_iter-word-iterator.result c.args.text.now
    (YieldsList-from_slice_split _ (λ b. b == 43) {f = c.split-word-items.result.pred} c.args.text.now rest done (ap (λ s. s.pred) same) (λ x b q k. search (rules, tests)))

pub loop-word-preserved : goal.loop-word-preserved
loop-word-preserved c =
    IsSummed-more _ c.loop-word.word-iterator _ c.args.text.now c.loop-word.sum _ c.in-Some.word c.loop-word.invariant c.in-Some.ensures.steps (sym c.add_word.ensures ∙ c.in_ok-sum.was)

pub returns-in_err-sum : goal.returns-in_err-sum
returns-in_err-sum c =
    c.from_residual.ensures
    ∙ IsSummed-over _ c.loop-word.word-iterator c.next.new.self c.args.text.now c.loop-word.sum c.in-Some.word c.loop-word.invariant c.in-Some.ensures.steps (sym c.add_word.ensures ∙ c.in_err-sum.was)

pub returns : goal.returns
returns c = IsSummed-end _ c.loop-word.word-iterator c.next.new.self c.args.text.now c.loop-word.sum c.loop-word.invariant c.in-None.ensures.steps
