use Rattle.std.proofs.Common.{◌≡◌, ◌+◌, drop}
use Rattle.abc_repeat.specs.Play.{run_start}
use Rattle.abc_repeat.proofs.pass.run_start.Given as goal

-- the marks so far, and the beginning of the run in the rest
abbrev pub invariant-loop-at : goal.invariant-loop-at
invariant-loop-at l = l.at + run_start l.pass (drop l.at l.text) ≡ run_start l.pass l.text
