use Rattle.std.proofs.Common.{arith}
use Rattle.std.proofs.lemmas.Int.{ints}
use Rattle.abc_scan.proofs.note.octave.Goals as goal

pub returns : goal.returns
returns c = omega (arith, ints)
