use Rattle.std.proofs.Common.{◌+◌, ◌≤◌, ◌++◌, map, slice_get, append-nil, append_assoc, sym, ap, ◌∙◌, arith}
use Rattle.abc_play.specs.Places.{placed_cell, row_places}
use Rattle.abc_play.proofs.InText.{cells_along, cells_along-end, cells_along-one, few_rows}
use Rattle.abc_play.proofs.cells.cells_of.Goals as goal

pub put_row-requires : goal.put_row-requires
put_row-requires c =
    let rows = few_rows c.args.text.now.lines.text c.args.text.now.rows.items c.requires.rows in
    omega (arith, rows, c.requires.few)

pub loop-at-preserved : goal.loop-at-preserved
loop-at-preserved c =
    let text = c.args.text.now.lines.text in
    let rows = c.args.text.now.rows.items in
    let at = c.loop-at.at in
    let to = c.args.block.to in
    let before = map placed_cell c.loop-at.cells.items in
    ap (λ l. l ++ cells_along text (at + 1) to) c.in_ok-put_row.ensures
    ∙ append_assoc before (row_places (at + 1) (slice_get rows at)) (cells_along text (at + 1) to)
    ∙ ap (λ l. before ++ l) (sym (cells_along-one text rows c.requires.rows at to c.loop-at-test.true))
    ∙ c.loop-at.invariant

pub returns : goal.returns
returns c =
    let before = map placed_cell c.loop-at.cells.items in
    let over : c.args.block.to ≤ c.loop-at.at = omega (arith, c.loop-at-test.false) in
    sym (append-nil before)
    ∙ ap (λ l. before ++ l) (sym (cells_along-end c.args.text.now.lines.text c.loop-at.at c.args.block.to over))
    ∙ c.loop-at.invariant
