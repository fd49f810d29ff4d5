use Rattle.std.proofs.Common.{sym, ◌∙◌, arith}
use Rattle.std.proofs.lemmas.Option.{slice_get_within}
use Rattle.abc_lines.specs.Text.{seen_lines}
use Rattle.c_handle.proofs.TextChanges.{take-more, slice_get-seen_lines}
use Rattle.c_handle.proofs.text_change.common_front.Goals as goal

pub loop-front-preserved : goal.loop-front-preserved
loop-front-preserved c =
    let text = c.args.session.now.text in
    let here = c.has_line_at.ensures.exact.0 c.if-has_line_at.true in
    let there = slice_get-seen_lines c.args.lines.now c.loop-front.front _ c.loop-front-test.true in
    record {
      old = omega (arith, slice_get_within text c.loop-front.front _ here);
      new = omega (arith, c.loop-front-test.true);
      same = take-more text (seen_lines c.args.lines.now) c.loop-front.front _ here there c.loop-front.invariant.same;
    }

pub returns-else-has_line_at-clause-first : goal.returns-else-has_line_at-clause-first
returns-else-has_line_at-clause-first c = λ old new is.
    let there = slice_get-seen_lines c.args.lines.now c.loop-front.front _ new in
    let found = c.has_line_at.ensures.exact.1 (is ∙ there) in
    let e = sym found ∙ c.if-has_line_at.false in
    cc
