use Rattle.std.proofs.Common.{◌∙◌, subst, sym, ◌≤◌, length}
use Rattle.abc_text.specs.Blank.{is_blank}
use Rattle.abc_text.proofs.Blanks.{trim_blanks-le}
use Rattle.abc_text.proofs.Trims.{trim_by_blanks}
use Rattle.abc_text.proofs.blank.trim_blanks.Goals as goal

pub returns-clause-value : goal.returns-clause-value
returns-clause-value c = c.trim_with.ensures.value is_blank (λ b r h. h) ∙ trim_by_blanks c.args.text.now

pub returns-clause-bounded : goal.returns-clause-bounded
returns-clause-bounded c = subst (λ t. length t ≤ length c.args.text.now) (sym (returns-clause-value c)) (trim_blanks-le c.args.text.now)
