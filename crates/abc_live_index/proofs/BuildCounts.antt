-- Counts of tunes built.
use Rattle.std.proofs.Common.{◌≡◌, ℕ, ◌+◌, ◌<◌, ◌≤◌, Bool, true, false, if◌then◌else◌, List, drop, get_or, length, Option, Some}
use Rattle.std.proofs.Common.{None, refl, sym, ap, ◌∙◌, subst, arith}
use Rattle.std.proofs.lemmas.List.Sums.{sum_by-drop_more}
use Rattle.abc_fold.specs.Work.{Counters, raised}
use Rattle.abc_live_index.specs.BuildCount.{IsBuiltUpTo, built_count_at, built_count}
use Rattle.abc_fold.proofs.Raised.{raised-least}
use Rattle.abc_live_cost.proofs.Rises.{risen_both}

-- Counters that stay.
pub built_none : (k : ℕ) (counters : Counters) → IsBuiltUpTo k counters counters
built_none k counters = record { scanned = refl; folded = refl; least = omega arith; most = raised-least counters.built k }

-- One call of a builder.
built_once : (before after : Counters) → after ≡ record before { built = raised before.built 1 } → IsBuiltUpTo 1 before after
built_once before after is = record {
  scanned = ap (λ c. c.scanned) is;
  folded = ap (λ c. c.folded) is;
  least = rw is (raised-least before.built 1);
  most = rw is (omega arith);
}

-- One call of a builder, if any.
pub built_perhaps : (known : Bool) (before after : Counters) → after ≡ (if known then before else record before { built = raised before.built 1 }) → IsBuiltUpTo 1 before after
built_perhaps true before after is = rw is (built_none 1 before)
built_perhaps false before after is = built_once before after is

-- A tune that reuses what an old one gives.
pub built_shared : (reused_tunes : Option ℕ) (old : ℕ) → reused_tunes ≡ Some old → (now later : Counters) → later ≡ now → IsBuiltUpTo (built_count_at reused_tunes) now later
built_shared reused_tunes old is now later same = rw (same) (built_none (built_count_at reused_tunes) now)

-- One that is asked for.
pub built_asked : (reused_tunes : Option ℕ) → reused_tunes ≡ None → (now later : Counters) → IsBuiltUpTo 1 now later → IsBuiltUpTo (built_count_at reused_tunes) now later
built_asked reused_tunes is now later one = rw (is) one

-- One thing after another.
pub built_both : (j k : ℕ) (a b c : Counters) → IsBuiltUpTo j a b → IsBuiltUpTo k b c → IsBuiltUpTo (j + k) a c
built_both j k a b c ab bc =
    let both = risen_both j k a.built b.built c.built ab.least ab.most bc.least bc.most in
    record { scanned = bc.scanned ∙ ab.scanned; folded = bc.folded ∙ ab.folded; least = both.0; most = both.1 }

-- Counters from which the rest may be built, and stay within what all may be.
abbrev pub BuiltSoFar : List (Option ℕ) → List (Option ℕ) → Counters → Counters → Type 0
BuiltSoFar all rest before now = (after : Counters) → IsBuiltUpTo (built_count rest) now after → IsBuiltUpTo (built_count all) before after

module _ (all : List (Option ℕ)) (before now later : Counters) (at : ℕ) (other : Option ℕ) (inside : at < length all)
    (so_far : BuiltSoFar all (drop at all) before now) (one : IsBuiltUpTo (built_count_at (get_or all at other)) now later) where
  rest_is : built_count (drop at all) ≡ built_count_at (get_or all at other) + built_count (drop (at + 1) all)
  rest_is = sum_by-drop_more built_count_at all at other inside

  -- After one more of them.
  pub built_next : BuiltSoFar all (drop (at + 1) all) before later
  built_next after rest = so_far after (subst (λ k. IsBuiltUpTo k now after) (sym rest_is) (built_both _ _ now later after one rest))

  -- The same if that was the last one that was tried.
  pub built_last : IsBuiltUpTo (built_count all) before later
  built_last = built_next later (built_none (built_count (drop (at + 1) all)) later)
