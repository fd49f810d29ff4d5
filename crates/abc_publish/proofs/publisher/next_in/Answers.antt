use Rattle.std.proofs.Common.{ltb, rules}
use Rattle.std.proofs.lemmas.List.Sorted.{IsPartitionPoint-from_clause, IsPartitionedBy-ltb}
use Rattle.abc_publish.proofs.Least.{rising, reached, passed}
use Rattle.abc_publish.proofs.publisher.next_in.Goals as goal

pub returns-clause-from : goal.returns-clause-from
returns-clause-from c =
    let rise = rising c.args.numbers.now c.requires in
    let parted = IsPartitionedBy-ltb (λ x. x) _ c.args.at rise in
    let point = IsPartitionPoint-from_clause (λ y. ltb y c.args.at) _ _ c.partition_point-from.ensures.partitioned parted (λ a r q k. search rules) in
    reached c.args.numbers.now c.args.at _ c.get.result c.copied.result point c.get.ensures.lookup c.copied.ensures

pub returns-clause-none : goal.returns-clause-none
returns-clause-none c =
    let rise = rising c.args.numbers.now c.requires in
    let parted = IsPartitionedBy-ltb (λ x. x) _ c.args.at rise in
    let point = IsPartitionPoint-from_clause (λ y. ltb y c.args.at) _ _ c.partition_point-from.ensures.partitioned parted (λ a r q k. search rules) in
    passed c.args.numbers.now c.args.at _ c.get.result c.copied.result rise point c.get.ensures.lookup c.copied.ensures
