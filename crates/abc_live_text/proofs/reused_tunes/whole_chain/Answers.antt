use Rattle.std.proofs.Common.{◌≡◌, Some, true, false, length, slice_get, sym, ◌∙◌, ap, subst, rules}
use Rattle.abc_fold.specs.Chain.{ChainView, Folds}
use Rattle.abc_live_text.specs.ReusedTunes.{are_alike_both, first_source, is_along}
use Rattle.abc_live_text.proofs.WholeOldTunes.{begins_alike, whole_cells, whole_folds}
use Rattle.abc_live_text.proofs.reused_tunes.whole_chain.Goals as goal

pub returns-then-not-begins_in-clause-along : goal.returns-then-not-begins_in-clause-along
returns-then-not-begins_in-clause-along g c =
    let steps = g.F.Fold.steps c.args.fold.now in
    let old_chain = c.get-old_chain.result.now in
    let from : first_source c.args.rows.now ≡ Some c.in_ok-source.source = search rules in
    let there : slice_get c.args.old.now.items c.in_ok-source.source ≡ Some old_chain = sym c.in_ok-known.ensures ∙ ap Some (sym c.get-old_chain.ensures) in
    let not_alike : are_alike_both steps.alike (slice_get old_chain.entries 0) (Some c.args.opening.now) ≡ false =
    sym (c.begins_in.ensures c.args.fold.now) ∙ c.if-not-begins_in.true in
    λ goes. absurd (let so = begins_alike steps c.args.old.now.items c.args.rows.now c.in_ok-source.source old_chain from there c.args.opening.now goes in cc)

pub returns-clause-folds : goal.returns-clause-folds
returns-clause-folds g c =
    let steps = g.F.Fold.steps c.args.fold.now in
    let old_chain = c.get-old_chain.result.now in
    let there : slice_get c.args.old.now.items c.in_ok-source.source ≡ Some old_chain = sym c.in_ok-known.ensures ∙ ap Some (sym c.get-old_chain.ensures) in
    let alike : are_alike_both steps.alike (slice_get old_chain.entries 0) (Some c.args.opening.now) ≡ true = sym (c.begins_in.ensures c.args.fold.now) ∙ c.if-not-begins_in.false in
    subst (λ (x : ChainView g.row.F-State.Denot g.row.F-Cell.Denot g.row.F-Items.Denot). Folds steps c.args.opening.now x) c.get-old_chain.ensures
    (whole_folds steps c.args.old.now.items c.in_ok-source.source old_chain c.args.opening.now (g.met.F.Fold.resumable c.args.fold.now) c.requires.folded there alike)

pub returns-clause-cells : goal.returns-clause-cells
returns-clause-cells g c =
    let old_chain = c.get-old_chain.result.now in
    let there : slice_get c.args.old.now.items c.in_ok-source.source ≡ Some old_chain = sym c.in_ok-known.ensures ∙ ap Some (sym c.get-old_chain.ensures) in
    let along : is_along c.in_ok-source.source (length old_chain.cells) 0 c.args.rows.now ≡ true = search rules in
    ap (λ (x : ChainView g.row.F-State.Denot g.row.F-Cell.Denot g.row.F-Items.Denot). x.cells) (sym c.get-old_chain.ensures)
    ∙ whole_cells c.args.old.now.items c.args.rows.now c.in_ok-source.source old_chain c.requires.carried there along
