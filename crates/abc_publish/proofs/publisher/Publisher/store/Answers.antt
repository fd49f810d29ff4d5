use Rattle.std.proofs.Common.{◌≡◌, Some, true, is_some, ap, subst, sym}
use Rattle.abc_publish.specs.Publisher.{SlotView, Slots, slot_at}
use Rattle.abc_publish.proofs.Maps.{ends, succeeds}
use Rattle.abc_publish.proofs.publisher.Publisher.store.Goals as goal

pub returns : goal.returns
returns c =
    let there = subst (λ (slots : Slots). is_some (slot_at slots c.args.number) ≡ true) (sym c.self.view_is) c.requires in
    let updates = succeeds c.insert.result _ c.insert.ensures.updates c.insert.ensures.absent there in
    ends _ _ _ c.args.number (Some c.without_job.result) _ c.self.view_is updates.0 (ap (λ (s : SlotView). s.stored) c.without_job.ensures) (ap (λ (s : SlotView). s.job_bytes) c.without_job.ensures)
