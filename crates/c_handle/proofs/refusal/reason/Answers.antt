use Rattle.std.proofs.Common.{◌+◌, ◌-◌, ◌≤◌, inl, length, sym, ap, ◌∙◌, subst, arith}
use Rattle.std.specs.List.{list_all}
use Rattle.std.specs.Option.{unwrap_or}
use Rattle.abc_lines.specs.declared.edit_error.EditError.{EditError}
use Rattle.abc_lines.specs.declared.edit_error.EditError.TheVariants.{OutOfMemory}
use Rattle.abc_lines.specs.Edits.{Refuses, replaced}
use Rattle.abc_lines.specs.Text.{Splice, is_line}
use Rattle.abc_lines.specs.TextLines.{lines_in}
use Rattle.abc_lines.specs.Limits.{limit_error}
use Rattle.c_handle.proofs.Refusals.{outside, refuses_lines}
use Rattle.c_handle.proofs.refusal.reason.Goals as goal

pub returns-then-from-lines : goal.returns-then-from-lines
returns-then-from-lines c =
    let count = c.line_count.ensures.value in
    record { value = inl (outside c.args.session.now.text _ (omega (arith, c.if-from-lines.true, c.from-lines.ensures, c.from.ensures, c.from-2.ensures, count))) }

pub returns : goal.returns
returns c =
    let text = c.args.session.now.text in
    let s : Splice = record { at = c.args.at; removed = c.args.removed; lines = lines_in c.args.text.now } in
    let inside : s.at + s.removed ≤ length text = omega (arith, c.if-from-lines.false, c.from-lines.ensures, c.from.ensures, c.from-2.ensures, c.line_count.ensures.value) in
    let counted = ap (λ n. limit_error (list_all is_line s.lines) (n - s.removed + length s.lines)) c.line_count-2.ensures.value in
    let found = c.unwrap_or.ensures ∙ ap (λ r. unwrap_or r OutOfMemory) (c.limit_error.ensures.value ∙ counted) in
    record { value = subst (λ (e : EditError). Refuses e (replaced text s)) (sym found) (refuses_lines text s inside) }
