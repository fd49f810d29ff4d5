use Rattle.std.proofs.Common.{◌≡◌, []}
use Rattle.abc2midi_live.specs.Machine.{future_of_bytes}
use Rattle.abc2midi_live.specs.Outcome.{outlets}
use Rattle.abc_fold.specs.Work.{raised}
use Rattle.abc2midi_live.proofs.Feeding.{Heard}
use Rattle.abc2midi_live.proofs.run_loop.listen.Given as goal

-- what has been read has been served
abbrev pub invariant-reads : goal.invariant-reads
invariant-reads g l =
    let state = g.M.Machine.state in
    let contents = g.W.Sink.contents in
    let seen = g.S.Store.seen in
    record {
      heard : Heard l.counter (future_of_bytes (state l.fn.machine).future [])
          (future_of_bytes (state l.listener.machine).future l.listener.begun.items) (state l.fn.machine).directory (state l.listener.machine).directory
          (g.R.Source.remaining l.fn.reader) (g.R.Source.remaining l.reader)
          (outlets (contents l.fn.writer) (seen l.fn.store)) (outlets (contents l.writer) (seen l.store));
      calls : g.R.Source.calls l.reader ≡ raised (g.R.Source.calls l.fn.reader) l.counter;
      reads : g.R.Source.failures l.reader ≡ g.R.Source.failures l.fn.reader;
      writes : g.W.Sink.failures l.writer ≡ g.W.Sink.failures l.fn.writer;
    }
