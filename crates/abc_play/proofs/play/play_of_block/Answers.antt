use Rattle.std.proofs.Common.{◌≡◌, ◌≤◌, map, subst, sym, ap, ◌∙◌}
use Rattle.std.specs.Borrow.{Bor}
use Rattle.std.proofs.lemmas.Result.{err_from_is_err_and}
use Rattle.abc_bars_items.specs.Item.{Items}
use Rattle.abc_repeat.specs.declared.play.TheConstants.{MOST_PLACES}
use Rattle.abc_voices_sections.specs.Items.{items_of}
use Rattle.abc_voices.specs.Layout.{items_in}
use Rattle.abc_play.specs.Places.{placed_cell, tune_places}
use Rattle.abc_play.proofs.Blocks.{few_items, play_is, refused_is, size_is, tune_short}
use Rattle.abc_play.proofs.play.play_of_block.Goals as goal

pub items_of_cells-requires : goal.items_of_cells-requires
items_of_cells-requires c = few_items c.args.text.now.lines.text c.args.block c.args.chain.now c.requires.chain

pub tracks_of-requires-clause-short : goal.tracks_of-requires-clause-short
tracks_of-requires-clause-short c =
    let given = map (λ (one : Bor Items). one.now) c.deref.result.now in
    let given_is : given ≡ c.args.chain.now.items = ap (map (λ (one : Bor Items). one.now)) c.deref.ensures.value ∙ c.in_ok-given.ensures in
    let tune_is : items_of c.deref-4.result.now ≡ items_in given = ap items_of c.deref-4.ensures.value ∙ c.in_ok-tune.ensures.value in
    tune_short c.args.text.now.lines.text c.args.block c.args.chain.now c.requires.chain given c.deref-4.result.now given_is tune_is c.requires.short

pub returns-in_err-voices-clause-refused : goal.returns-in_err-voices-clause-refused
returns-in_err-voices-clause-refused c =
    let given = map (λ (one : Bor Items). one.now) c.deref.result.now in
    let given_is : given ≡ c.args.chain.now.items = ap (map (λ (one : Bor Items). one.now)) c.deref.ensures.value ∙ c.in_ok-given.ensures in
    let tune_is : items_of c.deref-4.result.now ≡ items_in given = ap items_of c.deref-4.ensures.value ∙ c.in_ok-tune.ensures.value in
    let p = err_from_is_err_and c.from_residual-in_err-voices.result c.from_residual-in_err-voices.ensures.1 in
    rw (p.1, p.2) (refused_is c.args.text.now.lines.text c.args.block c.args.chain.now c.requires.chain given c.deref-4.result.now given_is tune_is _ c.in_err-voices.ensures.refused)

pub returns-clause-few : goal.returns-clause-few
returns-clause-few c =
    let given = map (λ (one : Bor Items). one.now) c.deref.result.now in
    let given_is : given ≡ c.args.chain.now.items = ap (map (λ (one : Bor Items). one.now)) c.deref.ensures.value ∙ c.in_ok-given.ensures in
    let tune_is : items_of c.deref-4.result.now ≡ items_in given = ap items_of c.deref-4.ensures.value ∙ c.in_ok-tune.ensures.value in
    subst (λ n. n ≤ MOST_PLACES) (size_is c.args.text.now.lines.text c.args.block c.args.chain.now c.requires.chain given c.deref-4.result.now given_is tune_is) c.in_ok-voices.ensures.few

pub returns-clause-value : goal.returns-clause-value
returns-clause-value c =
    let given = map (λ (one : Bor Items). one.now) c.deref.result.now in
    let given_is : given ≡ c.args.chain.now.items = ap (map (λ (one : Bor Items). one.now)) c.deref.ensures.value ∙ c.in_ok-given.ensures in
    let tune_is : items_of c.deref-4.result.now ≡ items_in given = ap items_of c.deref-4.ensures.value ∙ c.in_ok-tune.ensures.value in
    let cells = map placed_cell c.deref-2.result.now in
    let cells_are = ap (map placed_cell) c.deref-2.ensures.value ∙ c.in_ok-cells.ensures in
    let own = ap (map (λ (one : Bor Items). one.now)) (c.deref-3.ensures.value ∙ sym c.deref.ensures.value) in
    let places_are = c.deref-5.ensures.value ∙ c.in_ok-places.ensures ∙ ap (tune_places cells) own in
    let voices_are = c.as_slice.ensures ∙ c.in_ok-voices.ensures.value in
    play_is c.args.text.now.lines.text c.args.block c.args.chain.now c.requires.chain given c.deref-4.result.now given_is tune_is
    cells c.deref-5.result.now c.as_slice.result.now _ cells_are places_are voices_are c.in_ok-tracks.ensures
