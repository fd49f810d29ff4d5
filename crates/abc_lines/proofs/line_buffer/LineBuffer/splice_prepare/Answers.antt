use Rattle.std.proofs.Common.{Ok, ap, ◌∙◌, subst}
use Rattle.abc_lines.specs.Text.{IsText}
use Rattle.abc_lines.proofs.Splices.{spliced-list}
use Rattle.abc_lines.proofs.line_buffer.LineBuffer.splice_prepare.Goals as goal

pub invariant_of-result : goal.invariant_of-result
invariant_of-result c = subst IsText (spliced-list _ _ _ _ _ _ _ c.self.view_is c.in_ok-lines.ensures c.in_ok-splice.ensures.after) c.in_ok-validate.ensures.limits

pub returns-clause-after : goal.returns-clause-after
returns-clause-after c = c.in_ok-validate.ensures.accepted ∙ ap Ok (spliced-list _ _ _ _ _ _ _ c.self.view_is c.in_ok-lines.ensures c.in_ok-splice.ensures.after)

pub returns-clause-limits : goal.returns-clause-limits
returns-clause-limits c = subst IsText (spliced-list _ _ _ _ _ _ _ c.self.view_is c.in_ok-lines.ensures c.in_ok-splice.ensures.after) c.in_ok-validate.ensures.limits
