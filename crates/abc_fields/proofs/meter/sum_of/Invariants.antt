use Rattle.abc_fields.proofs.Sums.{IsSummed}
use Rattle.abc_fields.proofs.meter.sum_of.Given as goal

abbrev pub invariant-loop-word : goal.invariant-loop-word
invariant-loop-word l = IsSummed (goal.iterator-loop-word).next_gives l.word-iterator l.text l.sum
