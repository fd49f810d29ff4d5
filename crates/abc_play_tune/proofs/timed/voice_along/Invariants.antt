use Rattle.std.proofs.Common.{◌≡◌, ◌+◌, ◌++◌, drop}
use Rattle.abc_play_tune.specs.Timed.{timed_along}
use Rattle.abc_voices_sections.specs.Turns.{stages_in, length_along}
use Rattle.abc_play_tune.proofs.timed.voice_along.Given as goal

-- how long the other stages are; what is played so far, and what is played from here on
abbrev pub invariant-loop-turn : goal.invariant-loop-turn
invariant-loop-turn l = record {
  moment : l.at.0 + length_along (stages_in (drop l.turn-index l.turns)) ≡ length_along (stages_in l.turns);
  put : l.timed.items ++ timed_along l.voice l.at.0 (stages_in (drop l.turn-index l.turns)) ≡ timed_along l.voice 0 (stages_in l.turns);
}
