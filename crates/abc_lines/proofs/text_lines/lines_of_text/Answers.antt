use Rattle.std.proofs.Common.{[], ◌∷◌, ◌++◌, sym, ap, ◌∙◌, append_assoc}
use Rattle.std.proofs.lemmas.Result.{IfOk-weaker}
use Rattle.abc_lines.specs.Text.{text_of}
use Rattle.abc_lines.specs.TextLines.{lines_in}
use Rattle.abc_lines.proofs.TextLines.{lines_in-last, lines_in-more, text_of-push}
use Rattle.abc_lines.proofs.text_lines.lines_of_text.Goals as goal

pub lines-preserved : goal.lines-preserved
lines-preserved c =
    let line = c.in-Some.line.now in
    let after = c.in-Some.after.now in
    let more = lines_in-more c.lines.rest.now line after c.in-Some.ensures.cut.first c.in-Some.ensures.cut.spelling in
    let pushed = text_of-push c.lines.lines c.push.new.self c.in_ok-from_slice-in-Some.field-0 c.in_ok-push-in-Some.ensures.items
    ∙ ap (λ l. text_of c.lines.lines ++ l ∷ []) c.in_ok-from_slice-in-Some.ensures.items in
    ap (λ ls. ls ++ lines_in after) pushed ∙ append_assoc (text_of c.lines.lines) (line ∷ []) (lines_in after) ∙ ap (λ ls. text_of c.lines.lines ++ ls) (sym more) ∙ c.lines.invariant

pub returns-in-None : goal.returns-in-None
returns-in-None c = record {
  value = IfOk-weaker c.with_last.result _ _
      (λ all h. h ∙ ap (λ ls. text_of c.lines.lines ++ ls) (sym (lines_in-last c.lines.rest.now c.in-None.ensures.cut)) ∙ c.lines.invariant)
      c.with_last.ensures.value;
}
