use Rattle.smf_bytes.proofs.Voices.{ordered_events}
use Rattle.smf_bytes.proofs.voice_event.order_voice.Goals as goal

pub returns-clause-exact : goal.returns-clause-exact
returns-clause-exact c = λ channel.
    ordered_events channel c.args.events.items c.sort.new.self.items c.in_ok-sort.ensures.permutation c.in_ok-sort.ensures.sorted
