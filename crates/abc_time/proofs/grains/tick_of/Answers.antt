use Rattle.std.proofs.Common.{arith, refl}
use Rattle.abc_time.specs.Grains.{tick_at-below, grains_of_a_tick}
use Rattle.abc_time.proofs.grains.tick_of.Goals as goal

pub overflow_cast-result : goal.overflow_cast-result
unfolding grains_of_a_tick
overflow_cast-result c = omega (arith, tick_at-below _ c.requires)

pub returns-clause-value : goal.returns-clause-value
unfolding grains_of_a_tick
returns-clause-value c = refl

pub returns-clause-bounded : goal.returns-clause-bounded
unfolding grains_of_a_tick
returns-clause-bounded c = tick_at-below _ c.requires
