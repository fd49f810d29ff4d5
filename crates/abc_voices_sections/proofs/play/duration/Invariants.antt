use Rattle.std.proofs.Common.{◌≡◌, ◌-◌, ◌^◌, min, take}
use Rattle.abc_voices_sections.specs.Play.{time_of}
use Rattle.abc_voices_sections.proofs.play.duration.Given as goal

-- how long what is passed takes
abbrev pub invariant-loop-step : goal.invariant-loop-step
invariant-loop-step g l = l.sum ≡ min (time_of g.T.AsItem.item_of (take l.step-index l.steps)) (2 ^ 64 - 1)
