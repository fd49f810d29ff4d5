use Rattle.std.proofs.Common.{◌≡◌, ◌-◌, ◌++◌}
use Rattle.abc_voices.specs.Turns.{for_voices}
use Rattle.abc_play_tune.specs.Timed.{timed_along}
use Rattle.abc_voices_sections.specs.Turns.{stages_in}
use Rattle.abc_play_tune.proofs.timed.voices_along.Given as goal

-- the voices so far, and the others
abbrev pub invariant-loop-voice : goal.invariant-loop-voice
invariant-loop-voice l = l.voices.items ++ for_voices (λ one. timed_along one 0 (stages_in l.turns)) l.voice (l.count - l.voice)
    ≡ for_voices (λ one. timed_along one 0 (stages_in l.turns)) l.first (l.count - l.first)
