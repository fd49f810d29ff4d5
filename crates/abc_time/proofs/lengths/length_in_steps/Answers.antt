use Rattle.std.proofs.Common.{refl, arith}
use Rattle.abc_time.specs.Grains.{grains_of_a_whole_note, grains_of_the_longest_length}
use Rattle.abc_time.proofs.LengthLaws.{length_from_quotient}
use Rattle.abc_time.proofs.lengths.length_in_steps.Goals as goal

pub returns-then-grains : goal.returns-then-grains
unfolding grains_of_a_whole_note grains_of_the_longest_length
returns-then-grains c =
    length_from_quotient _ _ c.requires.unit c.requires.factors _ _ _ refl c.in_ok-grains.ensures (omega arith, refl)
