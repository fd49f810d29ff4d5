use Rattle.std.proofs.Common.{◌≡◌, ◌<◌, ◌≤◌, ◌-◌, ◌^◌, min, max, drop}
use Rattle.abc_repeat.specs.Play.{most_passes}
use Rattle.abc_repeat.proofs.pass.most_passes.Given as goal

-- the greatest number of the marks so far and of the rest
abbrev pub invariant-loop-mark : goal.invariant-loop-mark
invariant-loop-mark l = record {
  some : 1 ≤ l.most;
  small : l.most < 2 ^ 64;
  most : min (max l.most (most_passes (drop l.mark-index l.text))) (2 ^ 64 - 1) ≡ min (most_passes l.text) (2 ^ 64 - 1);
}
