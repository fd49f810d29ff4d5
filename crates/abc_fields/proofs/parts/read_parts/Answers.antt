use Rattle.std.proofs.Common.{cond, Ok, Err, ap}
use Rattle.abc_fields.specs.declared.fault_code.FaultCode.TheVariants.{BadOrder}
use Rattle.abc_fields.proofs.Orders.{parts_ok, parts_refused}
use Rattle.abc_fields.proofs.parts.read_parts.Goals as goal

pub returns-then-is_order-clause-ok : goal.returns-then-is_order-clause-ok
returns-then-is_order-clause-ok c = parts_ok c.args.value.now (Ok tt) (ap (λ b. cond b (Ok tt) (Err BadOrder)) c.if-is_order.ensures)

pub returns-then-is_order-clause-refused : goal.returns-then-is_order-clause-refused
returns-then-is_order-clause-refused c = parts_refused c.args.value.now (Ok tt) (ap (λ b. cond b (Ok tt) (Err BadOrder)) c.if-is_order.ensures)

pub returns-else-is_order-clause-ok : goal.returns-else-is_order-clause-ok
returns-else-is_order-clause-ok c = parts_ok c.args.value.now (Err BadOrder) (ap (λ b. cond b (Ok tt) (Err BadOrder)) c.if-is_order.ensures)

pub returns-else-is_order-clause-refused : goal.returns-else-is_order-clause-refused
returns-else-is_order-clause-refused c = parts_refused c.args.value.now (Err BadOrder) (ap (λ b. cond b (Ok tt) (Err BadOrder)) c.if-is_order.ensures)
