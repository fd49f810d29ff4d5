use Rattle.std.proofs.Common.{◌≡◌, ◌+◌, ◌-◌, ◌^◌, ◌<◌, ◌≤◌, min, length, drop}
use Rattle.abc_repeat.specs.Strain.{strains_from}
use Rattle.abc_repeat.specs.Play.{plays_from, play_of}
use Rattle.abc_repeat.proofs.size.play_size.Given as goal

-- the strains so far, and those of the rest
abbrev pub invariant-loop-at : goal.invariant-loop-at
invariant-loop-at l = record {
  inside : l.at ≤ length l.marks;
  small : l.size < 2 ^ 64;
  counted : min (l.size + length (plays_from l.at (strains_from l.opened (drop l.at l.marks)))) (2 ^ 64 - 1) ≡ min (length (play_of l.marks)) (2 ^ 64 - 1);
}

abbrev pub decreases-loop-at : goal.decreases-loop-at
decreases-loop-at l = length l.initial.marks - l.at
