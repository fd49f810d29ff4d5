use Rattle.std.proofs.Common.{◌≡◌, ◌<◌, IsSome, drop, get_or, length, sym, ◌∙◌, ap, subst, arith}
use Rattle.std.proofs.lemmas.List.{get_or_default}
use Rattle.abc_book.specs.declared.block.BlockKind.TheVariants.{FileHeader}
use Rattle.abc_fold.specs.Chain.{ChainView, Folds}
use Rattle.abc_live_text.specs.Pieces.{IsChain, rows_in}
use Rattle.abc_live_text.specs.ReusedTunes.{GoesAlong}
use Rattle.abc_live_cost.specs.OldItems.{HasItemsOf}
use Rattle.abc_live_text.proofs.WholeOldTunes.{zip_at, zip_more}
use Rattle.abc_live_text.proofs.reused_tunes.reused_tunes.Goals as goal

pub loop-place-preserved : goal.loop-place-preserved
loop-place-preserved g c =
    let steps = g.F.Fold.steps c.args.fold.now in
    let place = c.loop-place.place in
    let chain = c.index-chains-place.result in
    let tune = get_or c.args.tunes.now place (record { kind = FileHeader; from = 0; to = 0 }) in
    let inside : place < length c.args.chains.now = c.loop-place-test.true in
    let there : place < length c.args.tunes.now = let count = c.requires.count in omega (arith, inside, count) in
    let is : tune ≡ get_or c.args.tunes.now place tune = get_or_default c.args.tunes.now place _ tune there in
    record {
      items = λ opening all.
          let own = zip_at (IsChain steps opening c.args.rows.now) c.args.chains.now c.args.tunes.now place chain tune all c.index-chains-place.is is inside in
          rw c.in_ok-push.ensures.items
          (zip_more (HasItemsOf
          (drop 1 c.args.old.now.items)) c.args.chains.now c.loop-place.reused_tunes.items place chain c.reused_tune-one.result
          (c.loop-place.invariant.items opening all) (subst
          (λ (x : ChainView g.row.F-State.Denot g.row.F-Cell.Denot g.row.F-Items.Denot). HasItemsOf
          (drop 1 c.args.old.now.items) x c.reused_tune-one.result) c.get.ensures
          (c.reused_tune-one.ensures.items opening (subst
          (λ (x : ChainView g.row.F-State.Denot g.row.F-Cell.Denot g.row.F-Items.Denot). Folds steps opening x)
          (sym c.get.ensures) own.folds) (ap (λ (x : ChainView g.row.F-State.Denot g.row.F-Cell.Denot g.row.F-Items.Denot). x.cells) c.get.ensures ∙ own.cells))) c.index-chains-place.is inside);
      along = λ opening all.
          let own = zip_at (IsChain steps opening c.args.rows.now) c.args.chains.now c.args.tunes.now place chain tune all c.index-chains-place.is is inside in
          rw c.in_ok-push.ensures.items
          (zip_more (λ tune one. GoesAlong steps c.args.old.now.items opening (rows_in c.args.rows.now tune)
          → IsSome one) c.args.tunes.now c.loop-place.reused_tunes.items place tune c.reused_tune-one.result
          (c.loop-place.invariant.along opening all) (c.reused_tune-one.ensures.along opening
          (subst (λ (x : ChainView g.row.F-State.Denot g.row.F-Cell.Denot g.row.F-Items.Denot). Folds steps opening x) (sym c.get.ensures) own.folds)) is there);
    }
