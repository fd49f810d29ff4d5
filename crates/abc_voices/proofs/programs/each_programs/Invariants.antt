use Rattle.std.proofs.Common.{◌≡◌, ◌-◌, ◌++◌}
use Rattle.abc_voices.specs.Turns.{stages_in, programs_along}
use Rattle.abc_voices.proofs.programs.each_programs.Given as goal

-- the voices so far, and the others
abbrev pub invariant-loop-voice : goal.invariant-loop-voice
invariant-loop-voice l = l.voices.items ++ programs_along l.opening (stages_in l.turns) l.voice (l.count - l.voice) ≡ programs_along l.opening (stages_in l.turns) l.first (l.count - l.first)
