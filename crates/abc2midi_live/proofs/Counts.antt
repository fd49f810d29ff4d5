-- Laws of counts that stay at their greatest value.
use Rattle.std.proofs.Common.{◌≡◌, ℕ, ◌+◌, ◌-◌, ◌^◌, ◌<◌, min, arith}
use Rattle.abc_fold.specs.Work.{raised}

-- a count that nothing is added to
pub raised_none : (count : ℕ) → raised count 0 ≡ count
unfolding raised
raised_none count = omega arith

-- a count is raised twice
pub raised_twice : (count first second : ℕ) → raised (raised count first) second ≡ raised count (first + second)
unfolding raised
raised_twice count first second = omega arith

-- a count of 64 bits
pub raised_within : (count by : ℕ) → count < 2 ^ 64 → min (count + by) (2 ^ 64 - 1) ≡ raised count by
unfolding raised
raised_within count by small = omega arith
