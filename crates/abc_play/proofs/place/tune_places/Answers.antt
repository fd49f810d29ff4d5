use Rattle.std.proofs.Common.{◌≡◌, ◌+◌, ◌++◌, Some, drop, map, slice_get, append_assoc, refl, sym, ap, ◌∙◌}
use Rattle.std.specs.Borrow.{Bor}
use Rattle.std.proofs.lemmas.Option.{slice_get_read}
use Rattle.abc_bars_items.specs.Item.{Items}
use Rattle.abc_play.specs.Places.{placed_cell, tune_places}
use Rattle.abc_play.proofs.OneByOne.{tune_places-one}
use Rattle.abc_play.proofs.place.tune_places.Goals as goal

pub loop-at-preserved : goal.loop-at-preserved
loop-at-preserved c =
    let cells = c.args.cells.now in
    let given = c.args.given.now in
    let at = c.loop-at.at in
    let cell = c.index-cells-at.result in
    let here : slice_get cells at ≡ Some cell = slice_get_read cells _ at cell refl c.loop-at-test.true c.index-cells-at.is in
    let others = tune_places (map placed_cell (drop (at + 1) cells)) (map (λ (one : Bor Items). one.now) (drop (at + 1) given)) in
    ap (λ l. l ++ others) c.in_ok-put_given.ensures
    ∙ append_assoc _ _ others
    ∙ ap (λ l. c.loop-at.places.items ++ l) (sym (tune_places-one cells given at cell here))
    ∙ c.loop-at.invariant
