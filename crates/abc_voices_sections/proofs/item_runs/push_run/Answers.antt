use Rattle.std.proofs.Common.{◌<◌, length, rules}
use Rattle.abc_voices_sections.proofs.ItemRuns.{each_more, turn_run}
use Rattle.abc_voices_sections.proofs.item_runs.push_run.Goals as goal

pub returns-in_ok-push-clause-each : goal.returns-in_ok-push-clause-each
returns-in_ok-push-clause-each g c = λ all.
    let own : 0 < length c.args.items.now = search rules in
    each_more g.T.AsItem.item_of c.args.found.now.items c.push.new.self.items _ c.in_ok-push.ensures.items (turn_run g.T.AsItem.item_of c.args.items.now own c.requires) all
