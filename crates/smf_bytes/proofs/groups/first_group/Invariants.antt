use Rattle.std.proofs.Common.{◌≤◌, ◌<◌, length, drop}
use Rattle.std.specs.List.{All}
use Rattle.smf_bytes.proofs.groups.first_group.Given as goal

-- the notes of the group so far
abbrev pub invariant-loop-start : goal.invariant-loop-start
invariant-loop-start l =
    record {
      inside : l.start < length l.notes;
      ends : All (λ note. note.off.0 ≤ l.end) (drop l.start l.notes);
    }

abbrev pub decreases-loop-start : goal.decreases-loop-start
decreases-loop-start l = l.start
