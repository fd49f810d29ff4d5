use Rattle.smf_bytes.proofs.Ordered.{sorted_is_in_order}
use Rattle.smf_bytes.proofs.order.order_events.Goals as goal

pub returns-clause-exact : goal.returns-clause-exact
returns-clause-exact c =
    sorted_is_in_order c.args.events.items c.sort.new.self.items c.in_ok-sort.ensures.permutation c.in_ok-sort.ensures.sorted
