use Rattle.std.proofs.Common.{◌≡◌, ◌++◌, drop, map, take}
use Rattle.c_handle.specs.Faults.{record_of}
use Rattle.c_handle.proofs.faults.put_records.Given as goal

-- the records so far, before the rest of the buffer
abbrev pub invariant-loop-at : goal.invariant-loop-at
invariant-loop-at l = l.records ≡ map record_of (take l.at l.fn.faults) ++ drop l.at l.fn.records
