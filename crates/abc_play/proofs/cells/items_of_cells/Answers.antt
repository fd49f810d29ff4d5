use Rattle.std.proofs.Common.{◌+◌, ◌≤◌, [], ◌++◌, drop, length, map, slice_get, append-nil, append_assoc, sym, ap, ◌∙◌, arith}
use Rattle.std.specs.Borrow.{Bor}
use Rattle.std.specs.List.{cons_option}
use Rattle.std.proofs.lemmas.List.{drop_all}
use Rattle.abc_bars_items.specs.Item.{Items}
use Rattle.abc_play.proofs.InText.{drop-one}
use Rattle.abc_play.proofs.cells.items_of_cells.Goals as goal

pub loop-at-preserved : goal.loop-at-preserved
loop-at-preserved c =
    let items = c.args.chain.now.items in
    let at = c.loop-at.at in
    let before = map (λ (one : Bor Items). one.now) c.loop-at.given.items in
    ap (λ l. l ++ drop (at + 1) items) c.in_ok-put_given.ensures
    ∙ append_assoc before (cons_option (slice_get items at) []) (drop (at + 1) items)
    ∙ ap (λ l. before ++ l) (sym (drop-one items at))
    ∙ c.loop-at.invariant

pub returns : goal.returns
returns c =
    let items = c.args.chain.now.items in
    let before = map (λ (one : Bor Items). one.now) c.loop-at.given.items in
    let over : length items ≤ c.loop-at.at = omega (arith, c.requires, c.loop-at-test.false, c.len-at-end.ensures) in
    sym (append-nil before) ∙ ap (λ l. before ++ l) (sym (drop_all c.loop-at.at items over)) ∙ c.loop-at.invariant
