use Rattle.std.proofs.Common.{◌≡◌, ◌++◌, drop, map}
use Rattle.c_handle.specs.PlayRecords.{play_record}
use Rattle.c_handle.proofs.plays.put_records.Given as goal

-- the records so far, and those of the entries that are left
abbrev pub invariant-loop-entry : goal.invariant-loop-entry
invariant-loop-entry l = l.records.items ++ map play_record (drop l.entry-index l.entries) ≡ l.initial.records.items ++ map play_record l.entries
