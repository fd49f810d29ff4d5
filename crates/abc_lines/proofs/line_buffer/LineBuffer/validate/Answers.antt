use Rattle.std.proofs.Common.{◌≡◌, ◌+◌, ◌≤◌, length, false, true, arith}
use Rattle.std.specs.List.{list_all}
use Rattle.abc_lines.specs.Text.{splice_from, is_line, lines_of, spliced}
use Rattle.abc_lines.specs.declared.limits.TheConstants.{MOST_LINES}
use Rattle.abc_lines.proofs.Splices.{IsText-spliced, length-spliced, length-lines_of, replaced-outside, replaced-bad, replaced-large, replaced-inside}
use Rattle.abc_lines.proofs.line_buffer.LineBuffer.validate.Goals as goal

pub returns-then-at-count-clause-refused : goal.returns-then-at-count-clause-refused
returns-then-at-count-clause-refused c = replaced-outside c.args.self.now.text (splice_from c.args.at c.args.removed c.args.lines.now) (omega arith)

pub returns-then-not-are_lines-clause-refused : goal.returns-then-not-are_lines-clause-refused
returns-then-not-are_lines-clause-refused c =
    let bad : list_all is_line (lines_of c.args.lines.now) ≡ false = cc in
    replaced-bad c.args.self.now.text (splice_from c.args.at c.args.removed c.args.lines.now) (omega arith) bad

pub returns-then-lines-kept-clause-refused : goal.returns-then-lines-kept-clause-refused
returns-then-lines-kept-clause-refused c =
    let s = splice_from c.args.at c.args.removed c.args.lines.now in
    let good : list_all is_line (lines_of c.args.lines.now) ≡ true = cc in
    let inside : c.args.at + c.args.removed ≤ length c.args.self.now.text = omega arith in
    replaced-large c.args.self.now.text s inside good (omega (arith, length-spliced c.args.self.now.text s inside, length-lines_of c.args.lines.now))

few : (c : goal.Else-lines-kept) → length (spliced c.args.self.now.text (splice_from c.args.at c.args.removed c.args.lines.now)) ≤ MOST_LINES
few c =
    let inside : c.args.at + c.args.removed ≤ length c.args.self.now.text = omega arith in
    omega (arith, length-spliced c.args.self.now.text (splice_from c.args.at c.args.removed c.args.lines.now) inside, length-lines_of c.args.lines.now)

pub returns-clause-limits : goal.returns-clause-limits
returns-clause-limits c =
    let good : list_all is_line (lines_of c.args.lines.now) ≡ true = cc in
    IsText-spliced c.args.self.now.text (splice_from c.args.at c.args.removed c.args.lines.now) c.len-count.ensures.limits good (few c)

pub returns-clause-accepted : goal.returns-clause-accepted
returns-clause-accepted c =
    let good : list_all is_line (lines_of c.args.lines.now) ≡ true = cc in
    replaced-inside c.args.self.now.text (splice_from c.args.at c.args.removed c.args.lines.now) (omega arith) good (few c)
