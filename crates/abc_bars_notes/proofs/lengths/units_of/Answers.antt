use Rattle.std.proofs.Common.{◌∷◌, [], ◌*◌, ◌≤◌, subst, sym, arith}
use Rattle.abc_time.specs.Grains.{grains_of_the_longest_length}
use Rattle.abc_time.specs.Length.{IsLength}
use Rattle.abc_bars_voice.specs.UnitLength.{IsUnitPart}
use Rattle.abc_bars_notes.proofs.Factors.{units_exact, units_fit, units_short}
use Rattle.abc_bars_notes.proofs.lengths.units_of.Goals as goal

pub overflow_mul-result : goal.overflow_mul-result
overflow_mul-result c = omega (arith, c.from.ensures, units_fit c.from.result c.grains.result.0 c.grains.ensures.range (omega (arith, c.from.ensures, c.requires)))

pub returns-clause-exact : goal.returns-clause-exact
returns-clause-exact c =
    subst (λ n. IsLength c.args.unit (record { num = c.args.count; den = 1 } ∷ []) (c.grains.result.0 * n)) (sym c.from.ensures)
    (units_exact c.args.unit c.args.count c.grains.result.0 c.grains.ensures.exact)

pub returns-clause-range : goal.returns-clause-range
returns-clause-range c =
    subst (λ n. c.grains.result.0 * n ≤ grains_of_the_longest_length) (sym c.from.ensures)
    (units_short c.args.unit c.args.count c.grains.result.0 (subst IsUnitPart c.get.ensures.value c.get.ensures.part) c.grains.ensures.exact c.requires)
