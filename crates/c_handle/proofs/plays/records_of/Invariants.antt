use Rattle.std.proofs.Common.{◌≡◌, ◌++◌, drop}
use Rattle.c_handle.specs.PlayRecords.{play_records}
use Rattle.c_handle.proofs.plays.records_of.Given as goal

-- the records so far, and those of the tracks that are left
abbrev pub invariant-loop-entries : goal.invariant-loop-entries
invariant-loop-entries l = l.records.items ++ play_records (drop l.entries-index l.tracks) ≡ play_records l.tracks
