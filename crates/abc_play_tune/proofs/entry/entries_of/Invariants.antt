use Rattle.std.proofs.Common.{◌≡◌, ◌++◌, [], drop}
use Rattle.abc_play_tune.specs.Entries.{entries_from}
use Rattle.abc_play_tune.proofs.entry.entries_of.Given as goal

-- the entries so far, and those of the rest after the last time token
abbrev pub invariant-loop-one : goal.invariant-loop-one
invariant-loop-one l = l.entries.items ++ entries_from l.previous.items (drop l.one-index l.timed) ≡ entries_from [] l.timed
