use Rattle.std.proofs.lemmas.Result.{err_from_is_err_and}
use Rattle.abc_time.proofs.Denominators.{not_divided_first, not_divided_next, IsDivided-step}
use Rattle.abc_time.proofs.lengths.divide_by_denominators.Goals as goal

pub returns-in_err-divide-clause-not_whole : goal.returns-in_err-divide-clause-not_whole
returns-in_err-divide-clause-not_whole c =
    let p = err_from_is_err_and c.from_residual.result c.from_residual.ensures.1 in
    let h = c.in_err-divide.ensures in
    rw (p.1, p.2) (h.not_whole.0, not_divided_first _ c.args.unit _ h.not_whole.1)

pub returns-in_err-divide-2-clause-not_whole : goal.returns-in_err-divide-2-clause-not_whole
returns-in_err-divide-2-clause-not_whole c =
    let p = err_from_is_err_and c.from_residual-in_err-divide-2.result c.from_residual-in_err-divide-2.ensures.1 in
    let h = c.in_err-divide-2.ensures in
    rw (p.1, p.2) (
      h.not_whole.0,
      not_divided_next _ _ _ _ _ _ c.loop-factor.invariant c.loop-factor-test.true c.requires.unit c.requires.factors h.not_whole.1,
    )

pub loop-factor-preserved : goal.loop-factor-preserved
loop-factor-preserved c =
    let h = c.in_ok-divide-2.ensures in
    IsDivided-step _ _ _ _ _ _ _ c.loop-factor.invariant c.loop-factor-test.true h.quotient h.positive
