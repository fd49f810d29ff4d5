use Rattle.std.proofs.Common.{◌≡◌, length}
use Rattle.smf_bytes.specs.Groups.{AreInTurn, are_in_turn}
use Rattle.smf_bytes.proofs.groups.are_in_turn.Given as goal

-- the notes so far are in turn
abbrev pub invariant-loop-left : goal.invariant-loop-left
invariant-loop-left l =
    record {
      sound : AreInTurn l.left → AreInTurn l.notes;
      exact : are_in_turn l.left ≡ are_in_turn l.notes;
    }

abbrev pub decreases-loop-left : goal.decreases-loop-left
decreases-loop-left l = length l.left
