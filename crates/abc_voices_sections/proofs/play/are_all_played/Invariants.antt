use Rattle.std.proofs.Common.{◌≡◌, drop}
use Rattle.std.specs.List.{list_all}
use Rattle.abc_repeat.specs.Mark.{is_play}
use Rattle.abc_voices_sections.specs.Step.{mark_of}
use Rattle.abc_voices_sections.proofs.play.are_all_played.Given as goal

-- the rest says what all say
abbrev pub invariant-loop-step : goal.invariant-loop-step
invariant-loop-step g l = list_all (λ step. is_play (mark_of (g.T.AsItem.item_of step))) (drop l.step-index l.part) ≡ list_all (λ step. is_play (mark_of (g.T.AsItem.item_of step))) l.part
