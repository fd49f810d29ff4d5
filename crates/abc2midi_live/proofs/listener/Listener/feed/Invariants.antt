use Rattle.std.proofs.Common.{◌≡◌, length}
use Rattle.abc2midi_live.specs.Machine.{future_of_bytes}
use Rattle.abc2midi_live.specs.Outcome.{outlets}
use Rattle.abc2midi_live.proofs.Feeding.{Fed}
use Rattle.abc2midi_live.proofs.listener.Listener.feed.Given as goal

-- a front of the piece has been served
abbrev pub invariant-lines : goal.invariant-lines
invariant-lines g l =
    let state = g.M.Machine.state in
    let contents = g.W.Sink.contents in
    let seen = g.S.Store.seen in
    record {
      fed : Fed (future_of_bytes (state l.fn.self.machine).future l.fn.self.begun.items) (future_of_bytes (state l.self.machine).future l.self.begun.items)
          (state l.fn.self.machine).directory (state l.self.machine).directory l.fn.piece l.rest
          (outlets (contents l.fn.writer) (seen l.fn.store)) (outlets (contents l.writer) (seen l.store));
      failures : g.W.Sink.failures l.writer ≡ g.W.Sink.failures l.fn.writer;
    }

abbrev pub decreases-lines : goal.decreases-lines
decreases-lines g l = length l.rest
