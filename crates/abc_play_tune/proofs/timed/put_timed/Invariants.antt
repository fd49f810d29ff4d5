use Rattle.std.proofs.Common.{◌≡◌, ◌+◌, ◌++◌, drop}
use Rattle.abc_play_tune.specs.Stage.{time_of}
use Rattle.abc_play_tune.specs.Timed.{timed_from}
use Rattle.abc_play_tune.proofs.timed.put_timed.Given as goal

-- what is put so far, and the rest at its moments
abbrev pub invariant-loop-step : goal.invariant-loop-step
invariant-loop-step l = record {
  moment : l.at.0 + time_of (drop l.step-index l.steps) ≡ l.fn.start.0 + time_of l.steps;
  put : l.timed.items ++ timed_from l.at.0 (drop l.step-index l.steps) ≡ l.initial.timed.items ++ timed_from l.fn.start.0 l.steps;
}
