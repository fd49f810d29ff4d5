use Rattle.std.proofs.Common.{ℕ, zero, suc, ◌≤◌, ◌*◌, ◌^◌, ◌%◌, lit≤, arith}
use Rattle.abc_bars_notes.proofs.broken.parts_of.Goals as goal

-- a shift by at most three places
shifted : (k : ℕ) → k ≤ 3 → (1 ≤ (1 * 2 ^ k) % 4294967296) × ((1 * 2 ^ k) % 4294967296 ≤ 8)
shifted zero h = (lit≤ tt, lit≤ tt)
shifted (suc zero) h = (lit≤ tt, lit≤ tt)
shifted (suc (suc zero)) h = (lit≤ tt, lit≤ tt)
shifted (suc (suc (suc zero))) h = (lit≤ tt, lit≤ tt)
shifted (suc (suc (suc (suc k)))) h = absurd (omega arith)

pub returns-clause-range : goal.returns-clause-range
returns-clause-range c = shifted c.min.result (omega arith)
