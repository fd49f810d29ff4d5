use Rattle.std.proofs.Common.{◌≡◌, ◌+◌, ◌++◌, drop}
use Rattle.abc_voices.specs.Turns.{stages_in, set_by_one}
use Rattle.abc_voices_sections.specs.Turns.{length_along}
use Rattle.abc_voices.proofs.stage_settings.put_stages.Given as goal

-- how long the other stages are; what is set so far, and what is set from here on
abbrev pub invariant-loop-turn : goal.invariant-loop-turn
invariant-loop-turn g l = record {
  moment : l.at.0 + length_along (stages_in (drop l.turn-index l.turns)) ≡ length_along (stages_in l.turns);
  set : l.sets.items ++ set_by_one g.S.Setting.value_of l.voice l.at.0 (stages_in (drop l.turn-index l.turns)) ≡ l.initial.sets.items ++ set_by_one g.S.Setting.value_of l.voice 0 (stages_in l.turns);
}
