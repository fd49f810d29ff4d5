-- Steps as runs of one step each.
use Rattle.std.proofs.Common.{◌≡◌, List, map}
use Rattle.abc_repeat.specs.declared.mark.Mark.{Mark}
use Rattle.abc_repeat.specs.Runs.{Run, items_played, marks_in}
use Rattle.abc_voices_sections.specs.ItemRuns.{single_run}
use Rattle.abc_voices_sections.proofs.OneByOne.{one_by_one}
use Rattle.abc_play_sections.specs.declared.step.PlayStep.{PlayStep}
use Rattle.abc_play_sections.specs.Play.{expanded}
use Rattle.abc_play_sections.specs.Step.{as_item}

-- a step as a run
abbrev pub one_run : PlayStep → Run PlayStep
one_run step = single_run as_item step

abbrev pub runs_of : List PlayStep → List (Run PlayStep)
runs_of steps = map one_run steps

abbrev pub run_marks : List PlayStep → List Mark
run_marks steps = marks_in (runs_of steps)

-- what is played of runs of one step each
pub items_played-expanded : (steps : List PlayStep) → items_played (runs_of steps) ≡ expanded steps
items_played-expanded steps = one_by_one as_item steps
