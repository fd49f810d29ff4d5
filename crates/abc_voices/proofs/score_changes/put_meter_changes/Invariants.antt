use Rattle.std.proofs.Common.{◌≡◌, ◌++◌, drop}
use Rattle.std.specs.Prelude.{filter_map}
use Rattle.abc_voices.specs.ScoreChanges.{meter_change}
use Rattle.abc_voices.proofs.score_changes.put_meter_changes.Given as goal

-- what is put, and the rest
abbrev pub invariant-loop-at : goal.invariant-loop-at
invariant-loop-at l = l.out.items ++ filter_map meter_change (drop l.at-index l.meters) ≡ l.initial.out.items ++ filter_map meter_change l.meters
