use Rattle.std.proofs.Common.{◌≡◌, length, None, ap, sym, ◌∙◌, subst}
use Rattle.std.specs.List.{list_all}
use Rattle.abc_lines.specs.Edits.{edited}
use Rattle.abc_lines.specs.Limits.{limit_error}
use Rattle.abc_lines.specs.Text.{is_line}
use Rattle.abc_lines.specs.TextLines.{lines_in}
use Rattle.c_handle.specs.Sessions.{EditsBy}
use Rattle.c_handle.proofs.TextChanges.{edited-change, few_lines, nothing_added, whole_text_is, within_limits}
use Rattle.c_handle.proofs.whole_text.set_text_of.Goals as goal

pub edit_to-requires : goal.edit_to-requires
edit_to-requires c =
    let lines = lines_in c.args.text.now in
    let none : limit_error (list_all is_line lines) (length lines) ≡ None =
    ap (limit_error (list_all is_line lines)) (sym (nothing_added (length lines))) ∙ sym c.in_default.ensures.value in
    record { few = few_lines (length lines) (within_limits lines none).1 }

pub returns-in-Ok-clause-value : goal.returns-in-Ok-clause-value
returns-in-Ok-clause-value c =
    let text = c.args.held.now.session.text in
    let lines = lines_in c.args.text.now in
    let none : limit_error (list_all is_line lines) (length lines) ≡ None =
    ap (limit_error (list_all is_line lines)) (sym (nothing_added (length lines))) ∙ sym c.in_default.ensures.value in
    let limits = within_limits lines none in
    let found = c.in-Ok.ensures.value in
    let answer = ap (edited text) found.1 ∙ edited-change text lines found.0 found.2 limits.0 limits.1 ∙ sym (whole_text_is lines none) in
    subst (λ a. EditsBy a c.args.held.now c.edit_session.result c.edit_session.new.held) answer c.edit_session.ensures.value
