use Rattle.std.proofs.Common.{◌≡◌, Some, true, false, length, slice_get, sym, ◌∙◌, ap, rules}
use Rattle.abc_live_text.specs.ReusedTunes.{are_alike_both, first_source, is_along}
use Rattle.abc_live_text.proofs.WholeOldTunes.{begins_so, taken_items}
use Rattle.abc_live_text.proofs.reused_tunes.reused_tune.Goals as goal

pub returns-then-not-begin_alike-clause-along : goal.returns-then-not-begin_alike-clause-along
returns-then-not-begin_alike-clause-along g c =
    let steps = g.F.Fold.steps c.args.fold.now in
    let old_chain = c.get-old_chain.result.now in
    let from : first_source c.args.rows.now ≡ Some c.in_ok-source.source = search rules in
    let there : slice_get c.args.old.now.items c.in_ok-source.source ≡ Some old_chain = sym c.in_ok-known.ensures ∙ ap Some (sym c.get-old_chain.ensures) in
    let not_alike : are_alike_both steps.alike (slice_get old_chain.entries 0) (slice_get c.args.chain.now.entries 0) ≡ false =
    sym (c.begin_alike.ensures c.args.fold.now) ∙ c.if-not-begin_alike.true in
    λ opening folds goes. absurd
    (let so = begins_so steps c.args.old.now.items c.args.rows.now c.in_ok-source.source old_chain c.args.chain.now (g.met.F.Fold.resumable c.args.fold.now) from there opening folds goes in cc)

pub returns-clause-items : goal.returns-clause-items
returns-clause-items g c =
    let steps = g.F.Fold.steps c.args.fold.now in
    let old_chain = c.get-old_chain.result.now in
    let there : slice_get c.args.old.now.items c.in_ok-source.source ≡ Some old_chain = sym c.in_ok-known.ensures ∙ ap Some (sym c.get-old_chain.ensures) in
    let along : is_along c.in_ok-source.source (length old_chain.cells) 0 c.args.rows.now ≡ true = search rules in
    let alike : are_alike_both steps.alike (slice_get old_chain.entries 0) (slice_get c.args.chain.now.entries 0) ≡ true = sym (c.begin_alike.ensures c.args.fold.now) ∙ c.if-not-begin_alike.false in
    taken_items steps c.args.old.now.items c.args.rows.now c.in_ok-source.source old_chain c.args.chain.now
    (g.met.F.Fold.resumable c.args.fold.now) c.requires.carried c.requires.folded there c.if-source-eq0.false along alike
