use Rattle.std.proofs.Common.{◌<◌, length, sym, ◌∙◌, arith}
use Rattle.abc_lines.proofs.TextLines.{refused_long, refused_short}
use Rattle.abc_lines.proofs.limits.error_of_last.Goals as goal

pub returns-then-last-gt-LONGEST_LINE : goal.returns-then-last-gt-LONGEST_LINE
returns-then-last-gt-LONGEST_LINE c = record { value = sym (refused_long c.args.count c.args.last.now c.if-last-gt-LONGEST_LINE.true) }

pub returns : goal.returns
returns c =
    let some : 0 < length c.args.last.now = grind (arith, c.if-is_empty.false, c.is_empty.ensures) in
    record { value = c.error_of_count-2.ensures.value ∙ sym (refused_short c.args.count c.args.last.now c.requires.clean some c.if-last-gt-LONGEST_LINE.false) }
