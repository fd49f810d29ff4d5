use Rattle.std.proofs.Common.{◌≡◌, ◌++◌, drop, true}
use Rattle.abc_perform_accompaniment.specs.Section.{items_from, last_state, rest_fits, section_items}
use Rattle.abc_perform_accompaniment.specs.Stretch.{IsStretch, section_opening}
use Rattle.abc_perform_accompaniment.proofs.section.accompany_section.Given as goal

abbrev pub invariant-loop-step : goal.invariant-loop-step
invariant-loop-step l =
    (l.performance ++ items_from l.part l.state (drop l.step-index l.steps)
    ≡ l.initial.performance ++ section_items l.part l.setting l.steps)
    × (last_state l.state (drop l.step-index l.steps) ≡ last_state (section_opening l.setting) l.steps)
    × (rest_fits l.state (drop l.step-index l.steps) ≡ true)
    × IsStretch l.state
