use Rattle.std.proofs.Common.{IsSome, refl, ap, subst, ◌∙◌}
use Rattle.abc_publish.specs.Publisher.{SlotView, Slots, slot_at, stored_of}
use Rattle.abc_publish.proofs.Maps.{begins}
use Rattle.abc_publish.proofs.publisher.Publisher.note.Goals as goal

pub returns-in-Some-clause-after : goal.returns-in-Some-clause-after
returns-in-Some-clause-after c =
    let written = c.get_mut.follows.holds c.begin.new.self in
    let puts = (written.3 (subst IsSome c.in-Some.ensures.value refl)).0 in
    let stored = ap (λ (s : SlotView). s.stored) c.begin.ensures ∙ ap stored_of c.in-Some.ensures.value ∙ ap (λ (slots : Slots). stored_of (slot_at slots c.args.number)) c.self.view_is in
    begins _ _ _ c.args.number c.begin.new.self c.args.bytes.now c.self.view_is puts stored (ap (λ (s : SlotView). s.job_bytes) c.begin.ensures)
