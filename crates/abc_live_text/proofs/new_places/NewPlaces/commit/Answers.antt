use Rattle.std.proofs.Common.{◌++◌, ◌∙◌, ap, sym, subst, drop, map, take}
use Rattle.abc_live_text.specs.NewPlaces.{FitAmong, MayReplaceTunes, tune_places_after}
use Rattle.abc_live_text.specs.KeptText.{block_after}
use Rattle.abc_live_text.proofs.PlaceUpdates.{put_and_moved}
use Rattle.abc_live_text.proofs.new_places.NewPlaces.commit.Goals as goal

pub returns-in-Among : goal.returns-in-Among
returns-in-Among c =
    let stretch = c.args.stretch in
    let old = c.args.tunes.now.items in
    let places = c.args.places.now in
    let fit : FitAmong stretch old places = subst (λ n. MayReplaceTunes n stretch old places) c.in-Among.is c.requires in
    let put = c.replace_places.ensures ∙ ap (λ n. take stretch.tunes.from old ++ (places ++ drop n old)) fit.count in
    c.move_after.ensures
    ∙ ap (λ l. take stretch.tunes.to l ++ map (block_after stretch) (drop stretch.tunes.to l)) put
    ∙ put_and_moved (block_after stretch) old places stretch.tunes.from stretch.tunes.to fit.count fit.inside
    ∙ ap (λ n. tune_places_after n stretch old places) (sym c.in-Among.is)
