use Rattle.std.proofs.Common.{arith}
use Rattle.abc_live_index.proofs.ClaimSteps.{titles_among}
use Rattle.abc_live_index.specs.TuneChange.{new_outputs, old_outputs}
use Rattle.abc_live_index.proofs.titles.NewTitles.of.Goals as goal

pub returns-in_ok-titles-clause-after : goal.returns-in_ok-titles-clause-after
returns-in_ok-titles-clause-after c =
    let s = c.args.change.now in
    let count = c.keeps_count.ensures.exact.0 c.if-keeps_count.true in
    titles_among (old_outputs s)
    (new_outputs s) s.tunes.from s.tunes.came s.tunes.to _ c.in_ok-titles.titles.items c.requires.order c.requires.inside
    count (omega (arith, count, c.requires.order)) c.requires.count c.requires.front c.requires.following c.in_ok-titles.ensures
