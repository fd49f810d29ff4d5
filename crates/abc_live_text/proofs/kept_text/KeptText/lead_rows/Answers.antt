use Rattle.std.proofs.Common.{◌∙◌}
use Rattle.abc_live_text.proofs.LeadRefold.{lead_carried, lead_fits, lead_inside, lead_rise}
use Rattle.abc_live_text.proofs.kept_text.KeptText.lead_rows.Goals as goal

pub rows_with_origins-requires-clause-rise : goal.rows_with_origins-requires-clause-rise
rows_with_origins-requires-clause-rise g c =
    lead_rise g.C.Fold.steps g.C.Compiler.rules c.self.view_is c.self.invariant c.args.splice.now.at c.args.splice.now.removed c.args.lead c.requires.lead
    _ _ c.deref.ensures.value (c.deref-2.ensures.value ∙ c.in_ok-places.ensures)

pub rows_with_origins-requires-clause-inside : goal.rows_with_origins-requires-clause-inside
rows_with_origins-requires-clause-inside g c =
    lead_inside g.C.Fold.steps g.C.Compiler.rules c.self.view_is c.self.invariant c.args.splice.now.at c.args.splice.now.removed c.args.lead c.requires.lead

pub edited_rows-requires : goal.edited_rows-requires
edited_rows-requires g c =
    lead_fits g.C.Fold.steps g.C.Compiler.rules c.self.view_is c.self.invariant c.args.splice.now.at c.args.splice.now.removed c.args.lead c.requires.lead
    _ _ _ c.deref.ensures.value (c.deref-2.ensures.value ∙ c.in_ok-places.ensures) (c.deref-3.ensures.value ∙ c.in_ok-old.ensures)

pub returns-clause-carried : goal.returns-clause-carried
returns-clause-carried g c =
    lead_carried g.C.Fold.steps g.C.Compiler.rules c.self.view_is c.self.invariant c.args.splice.now.at c.args.splice.now.removed c.args.lead c.requires.lead
    _ _ c.args.splice.now.new.now _ _ c.deref.ensures.value (c.deref-2.ensures.value ∙ c.in_ok-places.ensures) (c.deref-3.ensures.value ∙ c.in_ok-old.ensures) c.in_ok-rows.ensures
