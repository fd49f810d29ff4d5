use Rattle.smf_bytes.proofs.Ordered.{is_permutation, is_sorted, unique}
use Rattle.smf_bytes.proofs.laws.one_order.Goals as goal

pub returns-clause-permutation : goal.returns-clause-permutation
returns-clause-permutation c = is_permutation

pub returns-clause-sorted : goal.returns-clause-sorted
returns-clause-sorted c = is_sorted

pub returns-clause-unique : goal.returns-clause-unique
returns-clause-unique c = unique
