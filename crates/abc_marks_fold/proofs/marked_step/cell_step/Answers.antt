use Rattle.std.proofs.Common.{◌≡◌, ◌==◌, true, length, sym, ap, subst, ◌∙◌}
use Rattle.std.specs.Prelude.{IfOk, Some}
use Rattle.abc_bars_body.specs.Step.{body_step}
use Rattle.abc_bars_body.specs.declared.entry.Entry.{Entry}
use Rattle.abc_bars_items.specs.Item.{Items}
use Rattle.abc_marks_fold.specs.CellMarks.{body_given, body_here}
use Rattle.abc_marks_fold.proofs.MarkedSteps.{given_here, given_unmarked, step_here}
use Rattle.abc_marks_fold.proofs.marked_step.cell_step.Goals as goal

pub returns-then-is_empty-clause-items : goal.returns-then-is_empty-clause-items
returns-then-is_empty-clause-items c =
    let none : (length c.args.written.now == 0) ≡ true =
    ap (λ w. length w == 0) (sym c.as_slice-written.ensures.value) ∙ sym c.is_empty.ensures ∙ c.if-is_empty.true in
    subst (λ given. IfOk c.plain_step.result (λ made. made.1 ≡ given))
    (sym (given_unmarked c.args.entry.now c.args.cell.now c.args.written.now none)) c.plain_step.ensures.items

pub returns-in-Some-clause-state_after : goal.returns-in-Some-clause-state_after
returns-in-Some-clause-state_after c =
    let here : body_here c.args.entry.now c.args.cell.now ≡ Some c.in-Some.body =
    ap (body_here c.args.entry.now) (sym c.tokens.ensures) ∙ sym c.in-Ok.ensures ∙ c.in-Some.is in
    subst (λ state. IfOk c.body_marked_step.result (λ made. made.0 ≡ state))
    (ap (λ cell. (body_step c.in-Some.body cell).0) c.tokens-in-Some.ensures
    ∙ ap (λ (step : Entry × Items). step.0) (sym (step_here c.args.entry.now c.args.cell.now c.in-Some.body here)))
    c.body_marked_step.ensures.state_after

pub returns-in-Some-clause-items : goal.returns-in-Some-clause-items
returns-in-Some-clause-items c =
    let here : body_here c.args.entry.now c.args.cell.now ≡ Some c.in-Some.body =
    ap (body_here c.args.entry.now) (sym c.tokens.ensures) ∙ sym c.in-Ok.ensures ∙ c.in-Some.is in
    subst (λ given. IfOk c.body_marked_step.result (λ made. made.1 ≡ given))
    (ap (λ cell. body_given c.in-Some.body cell c.as_slice-written.result.now) c.tokens-in-Some.ensures
    ∙ ap (λ written. body_given c.in-Some.body c.args.cell.now written) c.as_slice-written.ensures.value
    ∙ sym (given_here c.args.entry.now c.args.cell.now c.args.written.now c.in-Some.body here))
    c.body_marked_step.ensures.items
