use Rattle.std.proofs.Common.{◌≡◌, length, ◌∙◌, rules}
use Rattle.std.specs.Vec.Iter.{into_iter_items}
use Rattle.abc_live_index.proofs.Lists.{put_none}
use Rattle.abc_live_index.proofs.titles.replace_titles.Goals as goal

pub returns : goal.returns
returns c =
    let none : length (into_iter_items c.loop-title.title-iterator) ≡ 0 = search rules in
    put_none c.loop-title.titles.items c.loop-title.place (into_iter_items c.loop-title.title-iterator) none ∙ c.loop-title.invariant.same
