use Rattle.std.proofs.Common.{arith}
use Rattle.std.proofs.lemmas.Int.{ints}
use Rattle.abc_fields.proofs.signature.alteration_by_fifths.Goals as goal

pub overflow_sub-sharps : goal.overflow_sub-sharps
overflow_sub-sharps c = omega (arith, ints)

pub overflow_sub-fifths : goal.overflow_sub-fifths
overflow_sub-fifths c = omega (arith, ints)
