use Rattle.std.proofs.Common.{◌≡◌, take}
use Rattle.abc_repeat.specs.Runs.{marks_in}
use Rattle.abc_voices_sections.specs.ItemRuns.{runs_of}
use Rattle.abc_voices_sections.proofs.item_runs.marks_of.Given as goal

-- the marks of what is passed
abbrev pub invariant-loop-item_run : goal.invariant-loop-item_run
invariant-loop-item_run g l = l.marks.items ≡ marks_in (runs_of (take l.item_run-index l.item_runs))
