use Rattle.std.proofs.Common.{◌∙◌, subst, sym, ◌≤◌, length}
use Rattle.abc_text.specs.Blank.{is_blank}
use Rattle.abc_text.proofs.Blanks.{trim_start-le}
use Rattle.abc_text.proofs.Trims.{trim_start_by_blanks}
use Rattle.abc_text.proofs.blank.trim_start.Goals as goal

pub returns-clause-value : goal.returns-clause-value
returns-clause-value c = c.trim_start_with.ensures.value is_blank (λ b r h. h) ∙ trim_start_by_blanks c.args.text.now

pub returns-clause-bounded : goal.returns-clause-bounded
returns-clause-bounded c = subst (λ t. length t ≤ length c.args.text.now) (sym (returns-clause-value c)) (trim_start-le c.args.text.now)
