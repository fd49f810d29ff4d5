use Rattle.std.proofs.Common.{◌≡◌, ◌++◌, drop, length, map}
use Rattle.c_handle.specs.PlayRecords.{track_sizes}
use Rattle.c_handle.proofs.plays.sizes_of.Given as goal

-- the sizes so far, and those of the tracks that are left
abbrev pub invariant-loop-entries : goal.invariant-loop-entries
invariant-loop-entries l = l.sizes.items ++ map length (drop l.entries-index l.tracks) ≡ track_sizes l.tracks
