-- Rises of a counter, one after the other.
use Rattle.std.proofs.Common.{ℕ, ◌+◌, ◌≤◌, arith}
use Rattle.abc_fold.specs.Work.{raised}

-- A counter that rises by j at most and then by k at most rises by j + k at most.
pub risen_both : (j k before now after : ℕ) → before ≤ now → now ≤ raised before j → now ≤ after → after ≤ raised now k → (before ≤ after) × (after ≤ raised before (j + k))
unfolding raised
risen_both j k before now after a b c d = (omega (arith, a, c), omega (arith, b, d))
