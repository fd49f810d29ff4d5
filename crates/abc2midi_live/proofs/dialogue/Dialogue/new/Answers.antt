use Rattle.std.proofs.Common.{ap}
use Rattle.abc_publish.specs.Publisher.{PublisherView}
use Rattle.abc2midi_live.proofs.dialogue.Dialogue.new.Goals as goal

pub invariant_of-result : goal.invariant_of-result
invariant_of-result c = record { idle = λ n. ap (λ (p : PublisherView). p.jobs n) c.in_ok-new-2.ensures.empty }
