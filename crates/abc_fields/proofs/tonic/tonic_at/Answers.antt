use Rattle.std.proofs.Common.{arith}
use Rattle.std.proofs.lemmas.Int.{ints}
use Rattle.abc_fields.proofs.tonic.tonic_at.Goals as goal

pub overflow_add-result : goal.overflow_add-result
overflow_add-result c = omega (arith, ints)

pub returns-in_ok-letter-in-len1-up-clause-range : goal.returns-in_ok-letter-in-len1-up-clause-range
returns-in_ok-letter-in-len1-up-clause-range c = (omega (arith, ints), omega (arith, ints))
