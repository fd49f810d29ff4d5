use Rattle.std.proofs.Common.{All, length, ap, sym, ◌∙◌, subst}
use Rattle.std.proofs.lemmas.Slice.Zip.{AllZip-long}
use Rattle.abc_fold.proofs.Raised.{raised-none}
use Rattle.abc_tune_compiler.specs.Book.{tunes_in}
use Rattle.abc_live_text.specs.Pieces.{LiesWithin}
use Rattle.abc_live_text.proofs.ChainPlaces.{tunes_within}
use Rattle.abc_live_text.proofs.Refolds.{refold_facts}
use Rattle.abc_live_text.proofs.refold.Refold.refold_tunes.Goals as goal

pub returns-in_err-blocks-clause-counted : goal.returns-in_err-blocks-clause-counted
returns-in_err-blocks-clause-counted g c = raised-none _ _

pub returns-in_err-tunes-clause-counted : goal.returns-in_err-tunes-clause-counted
returns-in_err-tunes-clause-counted g c = raised-none _ _

pub tune_chains-requires-clause-within : goal.tune_chains-requires-clause-within
tune_chains-requires-clause-within g c =
    subst (All (LiesWithin (length c.args.self.now.rows.now))) (sym (c.deref-2.ensures.value ∙ c.in_ok-tunes.ensures)) (tunes_within c.args.self.now.rows.now _
    (c.deref.ensures.value ∙ c.in_ok-blocks.ensures))

pub reused_tunes-requires-clause-within : goal.reused_tunes-requires-clause-within
reused_tunes-requires-clause-within g c =
    subst (All (LiesWithin (length c.args.self.now.rows.now))) (sym (c.deref-4.ensures.value ∙ c.in_ok-tunes.ensures)) (tunes_within c.args.self.now.rows.now _
    (c.deref.ensures.value ∙ c.in_ok-blocks.ensures))

pub reused_tunes-requires-clause-count : goal.reused_tunes-requires-clause-count
reused_tunes-requires-clause-count g c =
    ap length c.deref-3.ensures.value ∙ (sym (AllZip-long _ _ _ c.in_ok-new_chains.ensures.chains) ∙ ap length (c.deref-2.ensures.value ∙ sym c.deref-4.ensures.value))

pub returns-clause-value : goal.returns-clause-value
returns-clause-value g c =
    refold_facts (g.F.Fold.steps c.args.self.now.fold.now) c.args.self.now.chains.now.items c.args.self.now.opening.now c.args.self.now.rows.now _ _ _ _ _ _
    (c.in_ok-tunes.ensures ∙ ap tunes_in (c.deref.ensures.value ∙ c.in_ok-blocks.ensures)) c.deref-2.ensures.value c.deref-4.ensures.value c.deref-3.ensures.value
    c.in_ok-new_chains.ensures.chains c.in_ok-reused_tunes.ensures.items c.in_ok-reused_tunes.ensures.along
