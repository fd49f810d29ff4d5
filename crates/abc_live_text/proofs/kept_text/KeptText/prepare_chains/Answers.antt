use Rattle.std.proofs.Common.{◌≡◌, ◌≤◌, ◌+◌, ◌∷◌, ◌++◌, IfOk, length, refl, sym, ◌∙◌, ap, subst}
use Rattle.abc_live_text.specs.NewParts.{chains_after}
use Rattle.abc_live_text.specs.KeptText.{KeptTextView}
use Rattle.abc_live_text.proofs.ReplacedParts.{place_anew, place_same}
use Rattle.abc_live_text.proofs.kept_text.KeptText.prepare_chains.Goals as goal

pub returns-in_ok-append_shares-in-None-clause-after : goal.returns-in_ok-append_shares-in-None-clause-after
returns-in_ok-append_shares-in-None-clause-after g c =
    let inside = subst
    (λ (k : KeptTextView g.row.C.Denot g.row.C-State.Denot g.row.C-Cell.Denot g.row.C-Items.Denot). c.args.stretch.tunes.to + 1 ≤ length k.chains.items) (sym c.self.view_is) c.requires.inside in
    let new = c.in_ok-append_shares-in-None.ensures ∙ ap (λ l. l ++ c.args.new_chains.now) c.new-new.ensures.items in
    subst (λ (k : KeptTextView g.row.C.Denot g.row.C-State.Denot g.row.C-Cell.Denot g.row.C-Items.Denot). IfOk
    c.splice_prepare.result (λ patch. patch.after.items ≡ chains_after c.args.first.now c.args.stretch k.chains.items c.args.new_chains.now)) c.self.view_is
    (place_same c.splice_prepare.result c.self.inside.chains c.args.stretch c.args.first.now c.args.new_chains.now
    c.append_shares.new.chains.items c.in-None.is new c.requires.order inside c.splice_prepare.ensures.after)

pub returns-in_ok-append_shares-in-Some-clause-after : goal.returns-in_ok-append_shares-in-Some-clause-after
returns-in_ok-append_shares-in-Some-clause-after g c =
    let inside = subst
    (λ (k : KeptTextView g.row.C.Denot g.row.C-State.Denot g.row.C-Cell.Denot g.row.C-Items.Denot). c.args.stretch.tunes.to + 1 ≤ length k.chains.items) (sym c.self.view_is) c.requires.inside in
    let new : c.append_shares-in-Some.new.chains.items ≡ c.in-Some.first ∷ c.args.new_chains.now = rw
    (c.in_ok-append_shares-in-Some.ensures, c.in_ok-push-in-Some.ensures.items, c.in_ok-share-in-Some.ensures, c.new-new.ensures.items) refl in
    subst (λ (k : KeptTextView g.row.C.Denot g.row.C-State.Denot g.row.C-Cell.Denot g.row.C-Items.Denot). IfOk
    c.splice_prepare-in-Some.result (λ patch. patch.after.items ≡ chains_after c.args.first.now c.args.stretch k.chains.items c.args.new_chains.now)) c.self.view_is
    (place_anew c.splice_prepare-in-Some.result c.self.inside.chains c.args.stretch c.args.first.now c.in-Some.first c.args.new_chains.now
    c.append_shares-in-Some.new.chains.items c.in-Some.is new c.requires.anew inside c.splice_prepare-in-Some.ensures.after)
