use Rattle.std.proofs.Common.{◌≡◌, ◌+◌, ◌-◌, ◌<◌, length, drop, slice_get, ap, sym, ◌∙◌, arith}
use Rattle.abc_lines.specs.Text.{seen_lines}
use Rattle.c_handle.proofs.TextChanges.{drop-more, slice_get-seen_lines}
use Rattle.c_handle.proofs.text_change.common_back.Goals as goal

pub loop-back-preserved : goal.loop-back-preserved
loop-back-preserved c =
    let text = c.args.session.now.text in
    let lines = c.args.lines.now in
    let back = c.loop-back.back in
    let count = c.line_count-old.ensures.value in
    let old : c.args.front + back < length text = omega (arith, c.loop-back-test.true, c.min.ensures, count) in
    let new : c.args.front + back < length lines = omega (arith, c.loop-back-test.true, c.min.ensures, count) in
    let i = c.line_count-old.result - 1 - back in
    let j = length lines - 1 - back in
    let below : j < length lines = omega (arith, new) in
    let here = c.has_line_at.ensures.exact.0 c.if-has_line_at.true in
    let i_now : length text - (back + 1) ≡ i = omega (arith, count, old) in
    let i_next : i + 1 ≡ length text - back = omega (arith, count, old) in
    let j_now : length lines - (back + 1) ≡ j = omega (arith, new) in
    let j_next : j + 1 ≡ length lines - back = omega (arith, new) in
    let there = slice_get-seen_lines lines j _ below in
    record {
      inside = omega (arith, c.loop-back-test.true);
      same = ap (λ n. drop n text) i_now
          ∙ drop-more text (seen_lines lines) i j _ here there
          (ap (λ n. drop n text) i_next ∙ c.loop-back.invariant.same ∙ ap (λ n. drop n (seen_lines lines)) (sym j_next))
          ∙ ap (λ n. drop n (seen_lines lines)) (sym j_now);
    }

pub returns-else-has_line_at-clause-last : goal.returns-else-has_line_at-clause-last
returns-else-has_line_at-clause-last c = λ old new is.
    let text = c.args.session.now.text in
    let lines = c.args.lines.now in
    let back = c.loop-back.back in
    let count = c.line_count-old.ensures.value in
    let i = c.line_count-old.result - 1 - back in
    let j = length lines - 1 - back in
    let below : j < length lines = omega (arith, new) in
    let i_now : i ≡ length text - back - 1 = omega (arith, count, old) in
    let j_now : length lines - back - 1 ≡ j = omega (arith, new) in
    let there = slice_get-seen_lines lines j _ below in
    let found = c.has_line_at.ensures.exact.1 (ap (slice_get text) i_now ∙ is ∙ ap (slice_get (seen_lines lines)) j_now ∙ there) in
    let e = sym found ∙ c.if-has_line_at.false in
    cc
