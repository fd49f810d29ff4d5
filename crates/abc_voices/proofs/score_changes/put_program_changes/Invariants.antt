use Rattle.std.proofs.Common.{◌≡◌, ◌++◌, drop, map}
use Rattle.abc_voices.specs.ScoreChanges.{program_change}
use Rattle.abc_voices.proofs.score_changes.put_program_changes.Given as goal

-- what is put, and the rest
abbrev pub invariant-loop-at : goal.invariant-loop-at
invariant-loop-at l = l.out.items ++ map program_change (drop l.at-index l.programs) ≡ l.initial.out.items ++ map program_change l.programs
