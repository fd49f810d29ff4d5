use Rattle.std.proofs.Common.{[], ◌∷◌, ◌++◌, sym, ap, ◌∙◌, append_assoc}
use Rattle.std.proofs.lemmas.List.{map_push}
use Rattle.std.proofs.lemmas.Result.{IfOk-weaker}
use Rattle.std.specs.Borrow.{Bor}
use Rattle.std.specs.Prelude.{ℕ, List}
use Rattle.abc_lines.specs.Text.{seen_lines}
use Rattle.abc_lines.specs.TextLines.{lines_in}
use Rattle.abc_lines.proofs.TextLines.{lines_in-last, lines_in-more}
use Rattle.c_handle.proofs.text_change.borrowed_lines.Goals as goal

pub lines-preserved : goal.lines-preserved
lines-preserved c =
    let line = c.in-Some.line in
    let after = c.in-Some.after.now in
    let more = lines_in-more c.lines.rest.now line.now after c.in-Some.ensures.cut.first c.in-Some.ensures.cut.spelling in
    let pushed = ap seen_lines c.in_ok-push-in-Some.ensures.items ∙ map_push (λ (l : Bor (List ℕ)). l.now) c.lines.lines.items line in
    ap (λ ls. ls ++ lines_in after) pushed ∙ append_assoc (seen_lines c.lines.lines.items) (line.now ∷ []) (lines_in after)
    ∙ ap (λ ls. seen_lines c.lines.lines.items ++ ls) (sym more) ∙ c.lines.invariant

pub returns-in-None : goal.returns-in-None
returns-in-None c = record {
  value = IfOk-weaker c.with_last.result _ _
      (λ all h. h ∙ ap (λ ls. seen_lines c.lines.lines.items ++ ls) (sym (lines_in-last c.lines.rest.now c.in-None.ensures.cut)) ∙ c.lines.invariant)
      c.with_last.ensures.value;
}
