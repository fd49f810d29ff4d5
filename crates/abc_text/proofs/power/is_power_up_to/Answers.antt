use Rattle.std.proofs.Common.{refl, sym, arith}
use Rattle.std.proofs.lemmas.Grind.{common_steps}
use Rattle.abc_text.proofs.Powers.{power_to, power_none, power_least, power_most}
use Rattle.abc_text.proofs.power.is_power_up_to.Goals as goal

pub returns-then-number-power-clause-power : goal.returns-then-number-power-clause-power
returns-then-number-power-clause-power c = grind (arith, common_steps)

pub returns-then-number-power-clause-value : goal.returns-then-number-power-clause-value
returns-then-number-power-clause-value c = sym (power_to c.args.most c.args.number ((returns-then-number-power-clause-power c).0 refl))

pub returns-clause-value : goal.returns-clause-value
returns-clause-value c = sym (power_none c.args.most c.args.number (λ k small. c.loop-power.invariant k (omega arith)))

pub returns-then-number-power-clause-bounded : goal.returns-then-number-power-clause-bounded
returns-then-number-power-clause-bounded c =
    λ yes. (let is = (returns-then-number-power-clause-power c).0 yes in (power_least c.args.most c.args.number is, power_most c.args.most c.args.number is))
