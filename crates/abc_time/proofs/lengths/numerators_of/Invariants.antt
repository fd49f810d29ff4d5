use Rattle.abc_time.specs.Grains.{grains_of_a_whole_note}
use Rattle.abc_time.proofs.Numerators.{HasNumerators}
use Rattle.abc_time.proofs.lengths.numerators_of.Given as goal

abbrev pub invariant-loop-i : goal.invariant-loop-i
invariant-loop-i l = HasNumerators grains_of_a_whole_note l.fn.unit l.factors l.numerators l.i
