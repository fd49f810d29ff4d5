use Rattle.std.proofs.Common.{◌≡◌, drop}
use Rattle.std.specs.List.{list_any}
use Rattle.abc_voices_sections.specs.Items.{items_of}
use Rattle.abc_voices.specs.Layout.{takes_time}
use Rattle.abc_voices.proofs.timing.plays_time.Given as goal

-- the rest says what the whole does
abbrev pub invariant-loop-step : goal.invariant-loop-step
invariant-loop-step l = list_any takes_time (items_of (drop l.step-index l.steps)) ≡ list_any takes_time (items_of l.steps)
