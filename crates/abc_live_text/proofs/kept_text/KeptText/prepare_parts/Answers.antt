use Rattle.std.proofs.Common.{◌∙◌, sym, subst}
use Rattle.std.proofs.lemmas.Result.{IfOk-weaker}
use Rattle.abc_lines.specs.Text.{lines_of, spliced}
use Rattle.abc_lines.specs.declared.limits.TheConstants.{MOST_LINES}
use Rattle.abc_live_text.specs.ItemSplice.{splice_in}
use Rattle.abc_live_text.specs.KeptText.{AreRows}
use Rattle.abc_live_text.specs.NewParts.{AreNewParts, view_of_new_parts}
use Rattle.abc_live_text.proofs.PreparedEdit.{came_small, may_be_anew}
use Rattle.abc_live_text.proofs.ReplacedParts.{read_now, rows_after}
use Rattle.abc_live_text.proofs.EditCost.{early_work, kept_now}
use Rattle.abc_live_text.proofs.kept_text.KeptText.prepare_parts.Goals as goal

pub returns-in_err-rows-clause-counted : goal.returns-in_err-rows-clause-counted
returns-in_err-rows-clause-counted g c = early_work _ _ _ _ c.read_rows.ensures.counted

pub prepare_patches-requires-clause-anew : goal.prepare_patches-requires-clause-anew
prepare_patches-requires-clause-anew g c =
    let lines = lines_of c.args.splice.now.new.now in
    let read = read_now g.C.Compiler.rules c.self.view_is lines c.in_ok-rows.ensures.rows in
    let kept = kept_now g.C.Fold.steps g.C.Compiler.rules c.self.view_is c.self.invariant g.met.C.Fold.resumable g.met.C.Compiler.lawful in
    may_be_anew kept (c.in_ok-new_parts.ensures.new_parts lines (c.deref.ensures.value ∙ read))

pub prepare_patches-requires-clause-numbers : goal.prepare_patches-requires-clause-numbers
prepare_patches-requires-clause-numbers g c =
    let lines = lines_of c.args.splice.now.new.now in
    let read = read_now g.C.Compiler.rules c.self.view_is lines c.in_ok-rows.ensures.rows in
    came_small c.requires.inside (c.in_ok-new_parts.ensures.new_parts lines (c.deref.ensures.value ∙ read)) MOST_LINES c.requires.limits.count

pub returns-clause-new_parts : goal.returns-clause-new_parts
returns-clause-new_parts g c =
    let now = c.args.self.now in
    let lines = lines_of c.args.splice.now.new.now in
    let read = read_now g.C.Compiler.rules c.self.view_is lines c.in_ok-rows.ensures.rows in
    IfOk-weaker c.prepare_patches.result _ _
    (λ patches same. subst (λ new. AreNewParts (g.C.Fold.steps now.compiler) (g.C.Compiler.rules now.compiler) now (splice_in c.args.splice.now)
    (view_of_new_parts new)) (sym same) (c.in_ok-new_parts.ensures.new_parts lines (c.deref.ensures.value ∙ read))) c.prepare_patches.ensures.new_parts

pub returns-clause-rows : goal.returns-clause-rows
returns-clause-rows g c =
    let now = c.args.self.now in
    let lines = lines_of c.args.splice.now.new.now in
    let kept = kept_now g.C.Fold.steps g.C.Compiler.rules c.self.view_is c.self.invariant g.met.C.Fold.resumable g.met.C.Compiler.lawful in
    IfOk-weaker c.prepare_patches.result _ _
    (λ patches are. subst (AreRows (g.C.Compiler.rules now.compiler) (spliced now.lines.text (splice_in c.args.splice.now))) (sym are)
    (rows_after (g.C.Compiler.rules now.compiler) now.lines.text lines now.rows.items c.in_ok-rows.rows.items c.args.splice.now.at c.args.splice.now.removed kept.parts_are.read
    (read_now g.C.Compiler.rules c.self.view_is lines c.in_ok-rows.ensures.rows))) c.prepare_patches.ensures.rows
