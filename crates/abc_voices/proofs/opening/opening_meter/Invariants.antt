use Rattle.std.proofs.Common.{◌≡◌, None, drop}
use Rattle.abc_voices_sections.specs.Items.{items_of}
use Rattle.abc_voices.specs.Opening.{meter_after, after_all}
use Rattle.abc_voices.proofs.opening.opening_meter.Given as goal

-- what holds so far, and after the rest
abbrev pub invariant-loop-item : goal.invariant-loop-item
invariant-loop-item l = after_all meter_after l.meter (items_of (drop l.item-index l.tune)) ≡ after_all meter_after None (items_of l.tune)
