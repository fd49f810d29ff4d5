use Rattle.std.proofs.Common.{sym, arith}
use Rattle.abc_voices_sections.proofs.Played.{played_items-turns, length-turns}
use Rattle.abc_voices_sections.proofs.Whole.{all_turns}
use Rattle.abc_voices_sections.proofs.play.play_in_order.Goals as goal

pub returns-then-len-min-clause-too_long : goal.returns-then-len-min-clause-too_long
returns-then-len-min-clause-too_long g c = λ _.
    let part = c.args.part.items in
    let size = length-turns g.T.AsItem.item_of part (all_turns g.T.AsItem.item_of part c.requires) in
    omega (arith, size)

pub returns-clause-value : goal.returns-clause-value
returns-clause-value g c =
    let item_of = g.T.AsItem.item_of in
    sym (played_items-turns item_of c.args.part.items (all_turns item_of c.args.part.items c.requires))

pub returns-clause-size : goal.returns-clause-size
returns-clause-size g c =
    let item_of = g.T.AsItem.item_of in
    sym (length-turns item_of c.args.part.items (all_turns item_of c.args.part.items c.requires))
