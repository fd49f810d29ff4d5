-- Laws of counters.
use Rattle.std.proofs.Common.{◌≡◌, ℕ, ◌+◌, ◌≤◌, refl, ap, arith}
use Rattle.abc_fold.specs.Work.{Counters, IsRaisedUpTo, raised, after_steps}

-- Raising a counter by 0 changes nothing, whatever it is at.
pub raised-zero : (count : ℕ) → raised count 0 ≡ count
unfolding raised
raised-zero count = omega arith

-- Raising it by j and then by k is raising it by j + k.
pub raised-raised : (count j k : ℕ) → raised (raised count j) k ≡ raised count (j + k)
unfolding raised
raised-raised count j k = omega arith

-- The more it is raised by, the greater it is.
pub raised-mono : (count j k : ℕ) → j ≤ k → raised count j ≤ raised count k
unfolding raised
raised-mono count j k more = omega arith

-- What a proof needs to add up the steps of several calls.
pub ruleset raising = (raised-zero, raised-raised, raised-mono)

-- A counter never falls.
pub raised-least : (count k : ℕ) → count ≤ raised count k
unfolding raised
raised-least count k = omega arith

-- Counters that stay are raised by k at most.
pub raised-none : (k : ℕ) (counters : Counters) → IsRaisedUpTo k counters counters
raised-none k counters = record { scanned = refl; built = refl; least = omega arith; most = raised-least counters.folded k }

-- Counters after one step are raised by one at most.
pub raised-once : (before after : Counters) → after ≡ after_steps before 1 → IsRaisedUpTo 1 before after
raised-once before after is = record {
  scanned = ap (λ c. c.scanned) is;
  built = ap (λ c. c.built) is;
  least = rw is (raised-least before.folded 1);
  most = rw is (omega arith);
}
