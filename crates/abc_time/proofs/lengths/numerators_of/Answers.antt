use Rattle.std.proofs.Common.{lit≤}
use Rattle.abc_time.specs.Grains.{grains_of_a_whole_note}
use Rattle.abc_time.proofs.Numerators.{HasNumerators-start, HasNumerators-step}
use Rattle.abc_time.proofs.lengths.numerators_of.Goals as goal

pub loop-i-init : goal.loop-i-init
unfolding grains_of_a_whole_note
loop-i-init c = HasNumerators-start 929901772800 _ _ _ (lit≤ tt) c.requires.unit c.from.ensures

pub loop-i-preserved : goal.loop-i-preserved
loop-i-preserved c =
    rw c.from-in-loop-i.ensures
    (HasNumerators-step _ _ _ _ _ _ c.loop-i.invariant c.loop-i-test.true c.requires.few c.requires.factors)
