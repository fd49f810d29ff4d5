use Rattle.std.proofs.Common.{◌≡◌, ◌+◌, ◌++◌, drop}
use Rattle.abc_voices_sections.specs.Items.{items_of}
use Rattle.abc_voices.specs.Change.{set_from}
use Rattle.abc_voices_sections.specs.Play.{duration}
use Rattle.abc_voices.proofs.setting.put_set.Given as goal

-- what is set so far, and what the rest sets
abbrev pub invariant-loop-step : goal.invariant-loop-step
invariant-loop-step g l = record {
  moment : l.at.0 + duration (items_of (drop l.step-index l.steps)) ≡ l.fn.start.0 + duration (items_of l.steps);
  put : l.sets.items ++ set_from g.S.Setting.value_of l.at.0 (items_of (drop l.step-index l.steps)) ≡ l.initial.sets.items ++ set_from g.S.Setting.value_of l.fn.start.0 (items_of l.steps);
}
