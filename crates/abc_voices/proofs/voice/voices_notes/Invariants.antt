use Rattle.std.proofs.Common.{◌≡◌, ◌-◌, ◌++◌}
use Rattle.abc_voices.specs.Turns.{stages_in, voices_along}
use Rattle.abc_voices.proofs.voice.voices_notes.Given as goal

-- the voices so far, and the others
abbrev pub invariant-loop-voice : goal.invariant-loop-voice
invariant-loop-voice l = l.voices.items ++ voices_along (stages_in l.turns) l.voice (l.count - l.voice) ≡ voices_along (stages_in l.turns) l.first (l.count - l.first)
