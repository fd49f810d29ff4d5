use Rattle.std.proofs.Common.{◌≡◌, ◌∙◌, subst, sym}
use Rattle.std.specs.List.Sorted.{IsStrictlySortedBy}
use Rattle.std.proofs.lemmas.Iterator.{items_from_collect}
use Rattle.std.proofs.lemmas.Iterator.Consumers.{YieldsList-at, YieldsList-from_copied, YieldsList-from_rest}
use Rattle.std.proofs.lemmas.Result.{IfOk-weaker}
use Rattle.abc_tune_compiler.proofs.sort.sort_dedup.Goals as goal

-- the keys of the set, in their order
pub returns-clause-value : goal.returns-clause-value
returns-clause-value g c =
    let keys = items_from_collect c.collect.result c.collect.ensures.ran
    (YieldsList-from_copied (YieldsList-at c.copied.ensures.source (YieldsList-from_rest c.in_ok-set.set.keys c.iter.ensures.rest))) in
    IfOk-weaker c.collect.result _ _ (λ sorted (are : sorted.items ≡ c.in_ok-set.set.keys). are ∙ c.in_ok-set.ensures) keys

pub returns-clause-rises : goal.returns-clause-rises
returns-clause-rises g c =
    let keys = items_from_collect c.collect.result c.collect.ensures.ran
    (YieldsList-from_copied (YieldsList-at c.copied.ensures.source (YieldsList-from_rest c.in_ok-set.set.keys c.iter.ensures.rest))) in
    IfOk-weaker c.collect.result _ _ (λ sorted (are : sorted.items ≡ c.in_ok-set.set.keys). subst (IsStrictlySortedBy g.T.Ord.cmp) (sym are) c.iter.ensures.ordered) keys
