use Rattle.std.proofs.Common.{◌≡◌, ◌++◌, drop, map}
use Rattle.abc_play.specs.Play.{placed_entry}
use Rattle.abc_play.proofs.entry.placed_entries.Given as goal

-- the entries so far, and the others
abbrev pub invariant-loop-entry : goal.invariant-loop-entry
invariant-loop-entry l = l.track.items ++ map (placed_entry l.places) (drop l.entry-index l.entries) ≡ map (placed_entry l.places) l.entries
