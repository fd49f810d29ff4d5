use Rattle.std.proofs.Common.{◌≡◌, ◌++◌, drop, map}
use Rattle.abc_voices.specs.ScoreChanges.{tempo_change}
use Rattle.abc_voices.proofs.score_changes.put_tempo_changes.Given as goal

-- what is put, and the rest
abbrev pub invariant-loop-at : goal.invariant-loop-at
invariant-loop-at l = l.out.items ++ map tempo_change (drop l.at-index l.tempos) ≡ l.initial.out.items ++ map tempo_change l.tempos
