use Rattle.std.proofs.Common.{arith}
use Rattle.std.proofs.lemmas.Result.{err_from_is_err_and}
use Rattle.abc_time.specs.Grains.{grains_of_a_whole_note, grains_of_the_longest_length}
use Rattle.abc_time.proofs.LengthLaws.{length_from_quotient, too_long_from_quotient, not_whole_from_quotient}
use Rattle.abc_time.proofs.lengths.length_by_cancelling.Goals as goal

pub returns-in_err-divide_by_denominators : goal.returns-in_err-divide_by_denominators
returns-in_err-divide_by_denominators c =
    let p = err_from_is_err_and c.from_residual.result c.from_residual.ensures.1 in
    let h = c.in_err-divide_by_denominators.ensures.not_whole in
    let n = not_whole_from_quotient _ _ c.requires.unit c.requires.factors _ c.numerators_of-numerators.ensures.product h.1 in
    cc (p.1, p.2, h.0, n)

pub returns-in-Some : goal.returns-in-Some
unfolding grains_of_a_whole_note grains_of_the_longest_length
returns-in-Some c =
    length_from_quotient _ _ c.requires.unit c.requires.factors _ _ _ c.numerators_of-numerators.ensures.product c.in_ok-divide_by_denominators.ensures.quotient c.in-Some.ensures

pub returns-in-None : goal.returns-in-None
unfolding grains_of_a_whole_note grains_of_the_longest_length
returns-in-None c =
    too_long_from_quotient _ _ c.requires.unit c.requires.factors _ _ c.numerators_of-numerators.ensures.product
    c.in_ok-divide_by_denominators.ensures.quotient (omega (arith, c.in-None.ensures))
