use Rattle.std.proofs.Common.{◌≡◌, ◌+◌, ◌≤◌, drop}
use Rattle.abc_play_places.specs.Givers.{first_giver}
use Rattle.abc_play_places.proofs.givers.next_giver.Given as goal

-- none so far
abbrev pub invariant-loop-at : goal.invariant-loop-at
invariant-loop-at l = record {
  past : l.from ≤ l.at;
  none : l.at + first_giver (drop l.at l.cell) ≡ l.from + first_giver (drop l.from l.cell);
}
