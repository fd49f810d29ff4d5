use Rattle.std.proofs.Common.{inl}
use Rattle.abc_live_session.specs.Edit.{splice_of}
use Rattle.abc_live_text.specs.ItemSplice.{splice_in}
use Rattle.abc_live_session.proofs.Costs.{cost_is, cost_none, edited-is, edited-none}
use Rattle.abc_live_session.proofs.session.LiveSession.prepare.Goals as goal

pub returns-in-None-clause-refused : goal.returns-in-None-clause-refused
returns-in-None-clause-refused g c = inl (edited-none c.args.self.now.text _ c.in-None.ensures)

pub returns-in-None-clause-counted : goal.returns-in-None-clause-counted
returns-in-None-clause-counted g c =
    cost_none (g.C.Fold.steps c.args.self.now.compiler) (g.C.Compiler.rules c.args.self.now.compiler) c.args.self.now.text (splice_of c.args.edit.now) _ c.in-None.ensures

pub returns-in-Some-clause-text : goal.returns-in-Some-clause-text
returns-in-Some-clause-text g c = rw (edited-is c.args.self.now.text _ _ c.in-Some.ensures) c.prepare_splice.ensures.text

pub returns-in-Some-clause-refused : goal.returns-in-Some-clause-refused
returns-in-Some-clause-refused g c = rw (edited-is c.args.self.now.text _ _ c.in-Some.ensures) c.prepare_splice.ensures.refused

pub returns-in-Some-clause-counted : goal.returns-in-Some-clause-counted
returns-in-Some-clause-counted g c =
    cost_is (g.C.Fold.steps c.args.self.now.compiler) (g.C.Compiler.rules c.args.self.now.compiler) c.args.self.now.text
    (splice_of c.args.edit.now) (splice_in c.in-Some.splice) _ _ c.in-Some.ensures c.prepare_splice.ensures.counted
