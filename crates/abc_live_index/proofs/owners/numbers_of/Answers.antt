use Rattle.std.proofs.Common.{◌≡◌, IfOk, sym, subst, rules}
use Rattle.std.specs.List.Sorted.{IsStrictlyIncreasing}
use Rattle.std.specs.Map.{keys_of}
use Rattle.std.proofs.lemmas.Map.Keys.{IsStrictlyIncreasing-from_sorted}
use Rattle.std.proofs.lemmas.Result.{IfOk-weaker}
use Rattle.abc_live_index.proofs.owners.numbers_of.Goals as goal

pub returns-clause-rise : goal.returns-clause-rise
returns-clause-rise c =
    let value : IfOk c.collect.result (λ numbers. numbers.items ≡ keys_of c.args.places.now.entries) = search rules in
    let rise : IsStrictlyIncreasing (keys_of c.args.places.now.entries) = IsStrictlyIncreasing-from_sorted _ c.keys.ensures.ordered in
    IfOk-weaker c.collect.result _ _ (λ numbers (is : numbers.items ≡ keys_of c.args.places.now.entries). subst IsStrictlyIncreasing (sym is) rise) value
