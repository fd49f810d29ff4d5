use Rattle.std.proofs.Common.{◌≡◌, ◌∷◌, ◌+◌, ◌++◌, drop}
use Rattle.abc_voices.specs.Turns.{stages_in, set_by_all}
use Rattle.abc_voices_sections.specs.Turns.{length_along}
use Rattle.abc_voices.specs.Change.{tempo_of}
use Rattle.abc_voices.proofs.stage_settings.tempos_along.Given as goal

-- how long the other stages are; what is set so far, and what is set from here on
abbrev pub invariant-loop-turn : goal.invariant-loop-turn
invariant-loop-turn l = record {
  moment : l.at.0 + length_along (stages_in (drop l.turn-index l.turns)) ≡ length_along (stages_in l.turns);
  set : l.tempos.items ++ set_by_all tempo_of l.at.0 (stages_in (drop l.turn-index l.turns)) ≡ (record { 0 = 0 }, l.opening) ∷ set_by_all tempo_of 0 (stages_in l.turns);
}
