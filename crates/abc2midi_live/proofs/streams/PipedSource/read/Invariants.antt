use Rattle.std.proofs.Common.{◌≡◌}
use Rattle.std.specs.Io.KnownBytes.{Keeps}
use Rattle.abc_fold.specs.Work.{raised}
use Rattle.abc2midi_live.proofs.streams.PipedSource.read.Given as goal

-- the reads so far took no bytes
abbrev pub invariant-loop : goal.invariant-loop
invariant-loop g l = record {
  kept : Keeps (g.T.Read.remaining l.fn.self.inner) (g.T.Read.remaining l.self.inner);
  counted : l.self.calls ≡ raised l.fn.self.calls 1;
  failures : l.self.failures ≡ l.fn.self.failures;
}
