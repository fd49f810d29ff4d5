use Rattle.std.proofs.Common.{◌<◌, min, length, rules, arith}
use Rattle.abc_repeat.specs.declared.play.TheConstants.{MOST_PLACES}
use Rattle.abc_repeat.specs.Play.{play_of}
use Rattle.abc_repeat.specs.Runs.{marks_in}
use Rattle.abc_voices_sections.specs.ItemRuns.{runs_of}
use Rattle.abc_voices_sections.proofs.Whole.{runs_within}
use Rattle.abc_voices_sections.proofs.play.expand_item_runs.Goals as goal

pub returns-in_err-places-clause-too_long : goal.returns-in_err-places-clause-too_long
returns-in_err-places-clause-too_long g c = λ late.
    let short = runs_within g.T.AsItem.item_of (runs_of c.args.item_runs.now) c.requires in
    let long : min c.args.room MOST_PLACES < length (play_of (marks_in (runs_of c.args.item_runs.now))) = search rules in
    omega (arith, short, long)
