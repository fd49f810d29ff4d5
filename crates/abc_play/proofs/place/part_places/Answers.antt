use Rattle.std.proofs.Common.{[], ◌∷◌, ◌++◌, get_or, sym, ap, ◌∙◌}
use Rattle.std.specs.Prelude.{filter_map}
use Rattle.abc_play.specs.Places.{part_place_at}
use Rattle.abc_play.proofs.OneByOne.{filter_map-one}
use Rattle.abc_play.proofs.place.part_places.Goals as goal

pub loop-index-preserved : goal.loop-index-preserved
loop-index-preserved c =
    let place = part_place_at c.args.line c.args.at c.args.parts.now in
    c.in_ok-put_part.ensures
    ∙ ap (λ l. l ++ filter_map place (get_or c.args.found.now c.loop-index.index-index 0 ∷ [])) c.loop-index.invariant
    ∙ sym (filter_map-one place c.args.found.now c.loop-index.index-index 0 c.loop-index-test.true)
