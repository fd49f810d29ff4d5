use Rattle.std.proofs.Common.{◌≡◌, ◌++◌, drop, map}
use Rattle.abc_voices.specs.ScoreChanges.{key_change}
use Rattle.abc_voices.proofs.score_changes.put_key_changes.Given as goal

-- what is put, and the rest
abbrev pub invariant-loop-at : goal.invariant-loop-at
invariant-loop-at l = l.out.items ++ map key_change (drop l.at-index l.keys) ≡ l.initial.out.items ++ map key_change l.keys
