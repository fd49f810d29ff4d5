-- What the chains of a new text cost.
use Rattle.std.proofs.Common.{ℕ, ◌+◌, ◌≤◌, ◌∙◌, arith}
use Rattle.abc_fold.specs.Work.{Counters, IsRaisedUpTo}
use Rattle.abc_fold.proofs.Raised.{raised-mono}
use Rattle.abc_live_cost.proofs.Rises.{risen_both}

pub raised_up : (j k : ℕ) (before after : Counters) → j ≤ k → IsRaisedUpTo j before after → IsRaisedUpTo k before after
raised_up j k before after order raise = record {
  scanned = raise.scanned;
  built = raise.built;
  least = raise.least;
  most = let more = raised-mono before.folded j k order in omega (arith, more, raise.most);
}

pub raised_both : (j k : ℕ) (before now after : Counters) → IsRaisedUpTo j before now → IsRaisedUpTo k now after → IsRaisedUpTo (j + k) before after
raised_both j k before now after first second =
    let both = risen_both j k before.folded now.folded after.folded first.least first.most second.least second.most in
    record { scanned = second.scanned ∙ first.scanned; built = second.built ∙ first.built; least = both.0; most = both.1 }
