use Rattle.std.proofs.Common.{rules, ◌+◌, ◌-◌, ◌≤◌, ◌∙◌, length}
use Rattle.abc_lines.specs.declared.limits.TheConstants.{MOST_LINES}
use Rattle.abc_live_session.proofs.SplicedLines.{line_among, line_following, line_front, line_small}
use Rattle.abc_live_session.proofs.stretch_lines.line_after.Goals as goal

pub overflow_add-i : goal.overflow_add-i
overflow_add-i c =
    let small : c.args.i - length c.args.splice.now.new.now + c.args.splice.now.removed ≤ MOST_LINES =
    line_small c.args.text.now.text c.args.splice.now.at c.args.splice.now.removed c.args.splice.now.new.now c.requires.range
    c.args.i c.len.ensures.limits c.if-i-splice.false c.if-i-splice-2.false c.requires.inside in
    search rules

pub returns-then-i-splice : goal.returns-then-i-splice
returns-then-i-splice c = c.line.ensures ∙ line_front c.args.text.now.text c.args.splice.now.at c.args.splice.now.removed c.args.splice.now.new.now c.requires.range c.args.i c.if-i-splice.true

pub returns-then-i-splice-2 : goal.returns-then-i-splice-2
returns-then-i-splice-2 c =
    line_among c.args.text.now.text c.args.splice.now.at c.args.splice.now.removed c.args.splice.now.new.now c.requires.range
    c.args.i c.index-splice-i.result c.as_slice.result.now c.if-i-splice.false c.if-i-splice-2.true c.index-splice-i.is c.as_slice.ensures.value

pub returns-else-i-splice-2 : goal.returns-else-i-splice-2
returns-else-i-splice-2 c =
    c.line-else-i-splice-2.ensures
    ∙ line_following c.args.text.now.text c.args.splice.now.at c.args.splice.now.removed c.args.splice.now.new.now
    c.requires.range c.args.i c.if-i-splice.false c.if-i-splice-2.false c.requires.inside
