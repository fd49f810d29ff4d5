use Rattle.std.proofs.Common.{Some, sym, subst}
use Rattle.abc_live_text.specs.NewParts.{AreNewParts, new_parts_view}
use Rattle.abc_live_text.proofs.EditCost.{kept_of}
use Rattle.abc_live_text.proofs.LeadRefold.{lead_renewed}
use Rattle.abc_live_text.proofs.kept_text.KeptText.refold_lead.Goals as goal

pub returns-clause-new_parts : goal.returns-clause-new_parts
returns-clause-new_parts g c = λ s edit begin goes.
    let now = c.args.self.now in
    let r = c.in_ok-folded.folded in
    let kept = kept_of g.C.Fold.steps g.C.Compiler.rules c.args.self.now c.lines.ensures.parts g.met.C.Fold.resumable g.met.C.Compiler.lawful in
    subst (AreNewParts (g.C.Fold.steps now.compiler) (g.C.Compiler.rules now.compiler) now s)
    (λ i. new_parts_view (sym c.stretch.ensures i) c.args.header.header (Some c.args.header.first) r.tunes.items r.new_chains.items r.reused_tunes.items)
    (lead_renewed kept edit begin goes c.in_ok-folded.ensures.value)
