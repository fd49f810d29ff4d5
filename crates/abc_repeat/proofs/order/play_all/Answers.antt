use Rattle.std.proofs.Common.{refl, ◌∙◌, None, arith}
use Rattle.abc_repeat.specs.Order.{has_unknown}
use Rattle.abc_repeat.specs.declared.order.TheConstants.{MOST_SECTIONS}
use Rattle.abc_repeat.proofs.OrderFaults.{range_with_len-all, length-sections_of_none, too_long_by_test, not_too_long}
use Rattle.abc_repeat.proofs.order.play_all.Goals as goal

pub returns-then-letters-ge-MOST_SECTIONS-clause-refused : goal.returns-then-letters-ge-MOST_SECTIONS-clause-refused
unfolding has_unknown
returns-then-letters-ge-MOST_SECTIONS-clause-refused c =
    let letters = c.args.letters.now in
    too_long_by_test MOST_SECTIONS None letters _ (omega (arith, length-sections_of_none letters)) refl

pub returns-in_err-sections-clause-refused : goal.returns-in_err-sections-clause-refused
returns-in_err-sections-clause-refused c =
    let letters = c.args.letters.now in
    not_too_long MOST_SECTIONS None letters c.from_residual.result (omega (arith, length-sections_of_none letters)) (λ unknown e. let same_refusal = rw e at c.from_residual.ensures.1 in cc)

pub returns-clause-sections : goal.returns-clause-sections
returns-clause-sections c = c.in_ok-sections.ensures ∙ range_with_len-all c.args.letters.now

pub returns-clause-refused : goal.returns-clause-refused
returns-clause-refused c =
    let letters = c.args.letters.now in
    not_too_long MOST_SECTIONS None letters _ (omega (arith, length-sections_of_none letters)) (λ unknown e. cc)
