use Rattle.std.proofs.Common.{◌+◌, ◌≤◌, length, ap, arith, inl}
use Rattle.abc_fold.proofs.Raised.{raised-none}
use Rattle.abc_live_text.specs.NewParts.{splice_at}
use Rattle.abc_live_text.specs.declared.stretch.Span.{Span}
use Rattle.abc_live_text.proofs.EditCost.{kept_of}
use Rattle.abc_live_text.proofs.LeadRefold.{lead_cost, lead_early, lead_edit, lead_head, lead_opening, whole_is_lead}
use Rattle.abc_live_text.proofs.kept_text.KeptText.refold_from_start.Goals as goal

pub returns-in_err-rows-clause-counted : goal.returns-in_err-rows-clause-counted
returns-in_err-rows-clause-counted g c = λ lines new. raised-none _ _

pub returns-in_err-header-clause-counted : goal.returns-in_err-header-clause-counted
returns-in_err-header-clause-counted g c = λ lines new.
    let kept = kept_of g.C.Fold.steps g.C.Compiler.rules c.args.self.now c.lines.ensures.parts g.met.C.Fold.resumable g.met.C.Compiler.lawful in
    let first = lead_edit _ c.args.self.now c.lead-lead.result c.args.splice.now.at c.args.splice.now.removed lines _ _ _ c.requires c.lead-lead.ensures c.deref.ensures.value c.in_ok-rows.ensures.value new in
    lead_early kept first c.header_opening.ensures.counted

pub returns-then-may_go_on-clause-new_parts : goal.returns-then-may_go_on-clause-new_parts
returns-then-may_go_on-clause-new_parts g c = λ lines new.
    let kept = kept_of g.C.Fold.steps g.C.Compiler.rules c.args.self.now c.lines.ensures.parts g.met.C.Fold.resumable g.met.C.Compiler.lawful in
    let first = lead_edit _ c.args.self.now c.lead-lead.result c.args.splice.now.at c.args.splice.now.removed lines _ _ _ c.requires c.lead-lead.ensures c.deref.ensures.value c.in_ok-rows.ensures.value new in
    let led = lead_edit _ c.args.self.now c.lead-lead.result c.args.splice.now.at c.args.splice.now.removed lines _ _ _ c.requires c.lead-lead.ensures c.deref-then-may_go_on.ensures.value c.in_ok-rows.ensures.value new in
    c.refold_lead.ensures.new_parts (splice_at c.args.splice.now.at c.args.splice.now.removed lines) led (lead_opening kept first c.in_ok-header.ensures.value) (c.may_go_on.ensures.sound c.if-may_go_on.true)

pub returns-then-may_go_on-clause-counted : goal.returns-then-may_go_on-clause-counted
returns-then-may_go_on-clause-counted g c = λ lines new.
    let kept = kept_of g.C.Fold.steps g.C.Compiler.rules c.args.self.now c.lines.ensures.parts g.met.C.Fold.resumable g.met.C.Compiler.lawful in
    let first = lead_edit _ c.args.self.now c.lead-lead.result c.args.splice.now.at c.args.splice.now.removed lines _ _ _ c.requires c.lead-lead.ensures c.deref.ensures.value c.in_ok-rows.ensures.value new in
    let led = lead_edit _ c.args.self.now c.lead-lead.result c.args.splice.now.at c.args.splice.now.removed lines _ _ _ c.requires c.lead-lead.ensures c.deref-then-may_go_on.ensures.value c.in_ok-rows.ensures.value new in
    lead_cost kept led (lead_opening kept first c.in_ok-header.ensures.value) (lead_head kept first c.header_opening.ensures.counted) c.refold_lead.ensures.counted

pub returns-in_err-rows-2-clause-counted : goal.returns-in_err-rows-2-clause-counted
returns-in_err-rows-2-clause-counted g c = λ lines new.
    let kept = kept_of g.C.Fold.steps g.C.Compiler.rules c.args.self.now c.lines.ensures.parts g.met.C.Fold.resumable g.met.C.Compiler.lawful in
    let first = lead_edit _ c.args.self.now c.lead-lead.result c.args.splice.now.at c.args.splice.now.removed lines _ _ _ c.requires c.lead-lead.ensures c.deref.ensures.value c.in_ok-rows.ensures.value new in
    lead_early kept first c.header_opening.ensures.counted

pub returns-clause-new_parts : goal.returns-clause-new_parts
returns-clause-new_parts g c = λ lines new.
    let all : length c.args.self.now.tunes ≤ c.whole_lead-whole.result.tunes.to = let e = ap (λ (l : Span). l.tunes.to) c.whole_lead-whole.ensures in omega (arith, e) in
    let kept = kept_of g.C.Fold.steps g.C.Compiler.rules c.args.self.now c.lines.ensures.parts g.met.C.Fold.resumable g.met.C.Compiler.lawful in
    let first = lead_edit _ c.args.self.now c.lead-lead.result c.args.splice.now.at c.args.splice.now.removed lines _ _ _ c.requires c.lead-lead.ensures c.deref.ensures.value c.in_ok-rows.ensures.value new in
    let is_whole = whole_is_lead c.args.self.now c.whole_lead-whole.result (c.args.splice.now.at + c.args.splice.now.removed) c.whole_lead-whole.ensures c.requires in
    let led = lead_edit _ c.args.self.now c.whole_lead-whole.result c.args.splice.now.at c.args.splice.now.removed lines _ _ _ c.requires is_whole c.deref-2.ensures.value c.in_ok-rows-2.ensures.value new in
    c.refold_lead-2.ensures.new_parts (splice_at c.args.splice.now.at c.args.splice.now.removed lines) led (lead_opening kept first c.in_ok-header.ensures.value) (inl all)

pub returns-clause-counted : goal.returns-clause-counted
returns-clause-counted g c = λ lines new.
    let kept = kept_of g.C.Fold.steps g.C.Compiler.rules c.args.self.now c.lines.ensures.parts g.met.C.Fold.resumable g.met.C.Compiler.lawful in
    let first = lead_edit _ c.args.self.now c.lead-lead.result c.args.splice.now.at c.args.splice.now.removed lines _ _ _ c.requires c.lead-lead.ensures c.deref.ensures.value c.in_ok-rows.ensures.value new in
    let is_whole = whole_is_lead c.args.self.now c.whole_lead-whole.result (c.args.splice.now.at + c.args.splice.now.removed) c.whole_lead-whole.ensures c.requires in
    let led = lead_edit _ c.args.self.now c.whole_lead-whole.result c.args.splice.now.at c.args.splice.now.removed lines _ _ _ c.requires is_whole c.deref-2.ensures.value c.in_ok-rows-2.ensures.value new in
    lead_cost kept led (lead_opening kept first c.in_ok-header.ensures.value) (lead_head kept first c.header_opening.ensures.counted) c.refold_lead-2.ensures.counted
