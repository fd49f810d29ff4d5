use Rattle.std.proofs.Common.{◌≡◌, drop}
use Rattle.std.specs.List.{list_any}
use Rattle.abc_voices.specs.Turns.{stages_in, is_stage_uneven}
use Rattle.abc_voices.proofs.uneven_stages.is_uneven.Given as goal

-- the rest says what the whole does
abbrev pub invariant-loop-turn : goal.invariant-loop-turn
invariant-loop-turn l = list_any is_stage_uneven (stages_in (drop l.turn-index l.turns)) ≡ list_any is_stage_uneven (stages_in l.turns)
