use Rattle.std.proofs.Common.{◌≡◌, ◌++◌, ◌≤◌, drop, length}
use Rattle.abc_perform_harmony.specs.Harmony.{IsHarmony}
use Rattle.abc_perform_harmony.specs.StretchItems.{step_items}
use Rattle.abc_perform_harmony.proofs.stretch_items.put_steps.Given as goal

abbrev pub invariant-loop-step : goal.invariant-loop-step
invariant-loop-step l =
    (l.performance ++ step_items l.part l.holds (drop l.done l.marks) (drop l.step-index l.steps)
    ≡ l.initial.performance ++ step_items l.part l.fn.harmony l.marks l.steps)
    × IsHarmony l.holds
    × (l.done ≤ length l.marks)
