use Rattle.abc_live_index.proofs.FileReports.{AreFound}
use Rattle.abc_live_index.specs.TuneChange.{new_outputs, old_outputs}
use Rattle.abc_live_index.specs.Owners.{owners_of}
use Rattle.abc_live_index.proofs.report.changed_numbers.Given as goal

-- the numbers found so far
abbrev pub invariant-loop-place : goal.invariant-loop-place
invariant-loop-place l = AreFound (old_outputs l.change) (new_outputs l.change) (owners_of (old_outputs l.change)) l.change.tunes.from l.place l.found.items
