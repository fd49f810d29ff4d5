use Rattle.std.proofs.Common.{◌≡◌, ◌++◌, drop}
use Rattle.abc_voices_sections.specs.OwnItems.{own_from}
use Rattle.abc_voices_sections.specs.Play.{without_single_bars}
use Rattle.abc_voices_sections.specs.Section.{own_steps}
use Rattle.abc_voices_sections.proofs.section.part.Given as goal

-- what is put, and the steps of the voice in the rest, but for single bars
abbrev pub invariant-loop-step : goal.invariant-loop-step
invariant-loop-step g l = l.part.items ++ without_single_bars g.T.AsItem.item_of (own_from g.T.AsItem.item_of l.voice l.is_own (drop l.step-index l.steps))
    ≡ without_single_bars g.T.AsItem.item_of (own_steps g.T.AsItem.item_of l.voice l.fn.opening l.steps)
