use Rattle.std.proofs.Common.{◌+◌, ◌≤◌, length, sym, ap, ◌∙◌, arith, ◌∷◌, length-append}
use Rattle.std.specs.List.{list_all}
use Rattle.abc_lines.specs.Text.{is_line}
use Rattle.abc_lines.specs.TextLines.{lines_in}
use Rattle.abc_lines.specs.Limits.{limit_error}
use Rattle.abc_lines.proofs.TextLines.{lines_in-last, lines_in-more}
use Rattle.abc_lines.proofs.TextLines.{refused_first_long, refused_first_short}
use Rattle.abc_lines.proofs.limits.limit_error.Goals as goal

pub returns-then-line-gt-LONGEST_LINE : goal.returns-then-line-gt-LONGEST_LINE
returns-then-line-gt-LONGEST_LINE c =
    let line = c.in-Some.line.now in
    let after = c.in-Some.after.now in
    let more = lines_in-more c.lines.rest.now line after c.in-Some.ensures.cut.first c.in-Some.ensures.cut.spelling in
    record { value = sym (refused_first_long c.lines.count line (lines_in after) (lines_in c.lines.rest.now) more c.if-line-gt-LONGEST_LINE.true) ∙ c.lines.invariant.1 }

pub lines-preserved : goal.lines-preserved
lines-preserved c =
    let line = c.in-Some.line.now in
    let after = c.in-Some.after.now in
    let cut = c.in-Some.ensures.cut in
    let more = lines_in-more c.lines.rest.now line after cut.first cut.spelling in
    let step = refused_first_short c.lines.count line (lines_in after) (lines_in c.lines.rest.now) more cut.first c.if-line-gt-LONGEST_LINE.false in
    let counts = ap length cut.spelling ∙ length-append line (10 ∷ after) in
    let bound = c.lines.invariant.0 in
    let shorter : c.lines.count + 1 + length after ≤ c.args.others + length c.args.text.now = omega arith in
    (shorter, sym step ∙ c.lines.invariant.1)

pub error_of_last-requires-clause-room : goal.error_of_last-requires-clause-room
error_of_last-requires-clause-room c =
    let bound = c.lines.invariant.0 in
    let few = c.requires.few in
    omega arith

pub returns-in-None : goal.returns-in-None
returns-in-None c =
    let last = lines_in-last c.lines.rest.now c.in-None.ensures.cut in
    record { value = c.error_of_last.ensures.value ∙ sym (ap (λ ls. limit_error (list_all is_line ls) (c.lines.count + length ls)) last) ∙ c.lines.invariant.1 }
