use Rattle.std.proofs.Common.{◌≡◌, ◌-◌, ◌^◌, min, take}
use Rattle.abc_voices_sections.specs.Turns.{stages_in, length_along}
use Rattle.abc_voices_sections.proofs.turns.length_along.Given as goal

-- how long what is passed is
abbrev pub invariant-loop-turn : goal.invariant-loop-turn
invariant-loop-turn g l = l.sum ≡ min (length_along (stages_in (take l.turn-index l.turns))) (2 ^ 64 - 1)
