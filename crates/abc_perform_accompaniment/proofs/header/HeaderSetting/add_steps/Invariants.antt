use Rattle.std.proofs.Common.{◌≡◌, drop, false}
use Rattle.abc_perform_accompaniment.specs.Header.{IsHeaderSetting, after_directives}
use Rattle.abc_perform_accompaniment.proofs.header.HeaderSetting.add_steps.Given as goal

abbrev pub invariant-loop-step : goal.invariant-loop-step
invariant-loop-step l =
    (after_directives l.self l.layered (drop l.step-index l.steps) ≡ after_directives l.initial.self false l.steps)
    × IsHeaderSetting l.self
