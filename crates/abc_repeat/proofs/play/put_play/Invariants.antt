use Rattle.std.proofs.Common.{◌≡◌, ◌++◌, ◌-◌, ◌≤◌, length, drop}
use Rattle.abc_repeat.specs.Strain.{strains_from}
use Rattle.abc_repeat.specs.Play.{plays_from, play_of}
use Rattle.abc_repeat.proofs.play.put_play.Given as goal

-- the places so far, and the play of the rest
abbrev pub invariant-loop-at : goal.invariant-loop-at
invariant-loop-at l = record {
  inside : l.at ≤ length l.marks;
  short : length (plays_from l.at (strains_from l.opened (drop l.at l.marks))) ≤ length (play_of l.marks);
  put : l.play.items ++ plays_from l.at (strains_from l.opened (drop l.at l.marks)) ≡ l.initial.play.items ++ play_of l.marks;
}

abbrev pub decreases-loop-at : goal.decreases-loop-at
decreases-loop-at l = length l.initial.marks - l.at
