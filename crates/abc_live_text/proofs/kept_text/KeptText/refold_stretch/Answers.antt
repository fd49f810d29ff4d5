use Rattle.std.proofs.Common.{◌≡◌, None, length, sym, ◌∙◌, ap, subst}
use Rattle.abc_fold.proofs.Raised.{raised-none}
use Rattle.abc_live_text.specs.NewParts.{AreNewParts, new_parts_view, span_stretch, splice_at}
use Rattle.abc_live_text.specs.KeptText.{KeptTextView}
use Rattle.abc_live_text.proofs.EditCost.{kept_of}
use Rattle.abc_live_text.proofs.SpanRefold.{span_cost, span_edit, span_renewed}
use Rattle.abc_live_text.proofs.kept_text.KeptText.refold_stretch.Goals as goal

pub returns-in_err-rows-clause-counted : goal.returns-in_err-rows-clause-counted
returns-in_err-rows-clause-counted g c = λ lines new. raised-none _ _

pub returns-in_err-folded-clause-counted : goal.returns-in_err-folded-clause-counted
returns-in_err-folded-clause-counted g c = λ lines new.
    let kept = kept_of g.C.Fold.steps g.C.Compiler.rules c.args.self.now c.lines.ensures.parts g.met.C.Fold.resumable g.met.C.Compiler.lawful in
    let edit = span_edit _ c.args.self.now c.args.span c.args.splice.now.at c.args.splice.now.removed lines _ _ _ c.requires.inside c.requires.span c.deref.ensures.value c.in_ok-rows.ensures.value new in
    span_cost kept edit c.kept_opening-opening.ensures c.refold_rows.ensures.counted

pub returns-clause-new_parts : goal.returns-clause-new_parts
returns-clause-new_parts g c = λ lines new.
    let now = c.args.self.now in
    let r = c.in_ok-folded.folded in
    let kept = kept_of g.C.Fold.steps g.C.Compiler.rules c.args.self.now c.lines.ensures.parts g.met.C.Fold.resumable g.met.C.Compiler.lawful in
    let edit = span_edit _ now c.args.span c.args.splice.now.at c.args.splice.now.removed lines _ _ _ c.requires.inside c.requires.span c.deref.ensures.value c.in_ok-rows.ensures.value new in
    let came : length c.deref.result.now ≡ c.len.result = c.deref.ensures.len ∙ sym c.len.ensures in
    let header = ap (λ (k : KeptTextView g.row.C.Denot g.row.C-State.Denot g.row.C-Cell.Denot g.row.C-Items.Denot). k.header) (sym c.self.view_is) in
    subst (AreNewParts (g.C.Fold.steps now.compiler) (g.C.Compiler.rules now.compiler) now (splice_at c.args.splice.now.at c.args.splice.now.removed lines))
    (λ i. new_parts_view ((ap (span_stretch c.args.span) came ∙ sym c.stretch.ensures) i) (header i) None r.tunes.items r.new_chains.items r.reused_tunes.items)
    (span_renewed kept edit c.kept_opening-opening.ensures c.in_ok-folded.ensures.value)

pub returns-clause-counted : goal.returns-clause-counted
returns-clause-counted g c = λ lines new.
    let kept = kept_of g.C.Fold.steps g.C.Compiler.rules c.args.self.now c.lines.ensures.parts g.met.C.Fold.resumable g.met.C.Compiler.lawful in
    let edit = span_edit _ c.args.self.now c.args.span c.args.splice.now.at c.args.splice.now.removed lines _ _ _ c.requires.inside c.requires.span c.deref.ensures.value c.in_ok-rows.ensures.value new in
    span_cost kept edit c.kept_opening-opening.ensures c.refold_rows.ensures.counted
