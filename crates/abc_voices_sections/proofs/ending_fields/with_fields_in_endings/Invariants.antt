use Rattle.std.proofs.Common.{◌≡◌, ◌++◌, drop}
use Rattle.abc_voices_sections.specs.EndingFields.{ordered, ordered_from}
use Rattle.abc_voices_sections.proofs.ending_fields.with_fields_in_endings.Given as goal

-- what is put, and the order of the rest after what waits
abbrev pub invariant-loop-step : goal.invariant-loop-step
invariant-loop-step g l = l.steps.items ++ ordered_from g.T.AsItem.item_of l.region l.waiting.items (drop l.step-index l.part) ≡ ordered g.T.AsItem.item_of l.part
