use Rattle.std.proofs.Common.{◌≡◌, ◌++◌, drop}
use Rattle.abc_perform_item.specs.SpreadChord.{step_items}
use Rattle.abc_perform_item.proofs.spread_chord.put_steps.Given as goal

abbrev pub invariant-loop-index : goal.invariant-loop-index
invariant-loop-index l =
    l.performance ++ step_items l.item l.step l.tones l.index (drop l.index l.before_last)
    ≡ l.initial.performance ++ step_items l.item l.step l.tones 0 l.before_last
