use Rattle.std.proofs.Common.{◌∙◌, sym, ap, Some, None, arith}
use Rattle.std.proofs.lemmas.Bool.{eqb-false}
use Rattle.abc_text.proofs.Numbers.{number_of-empty, number_of-long, number_of-other, number_of-whole, number_exact}
use Rattle.abc_text.proofs.number.number_of.Goals as goal
use Rattle.abc_text.proofs.number.number_of.Goals.{then-is_empty-via-then-is_empty, then-is_empty-via-else-is_empty+then-text-gt-LONGEST_NUMBER}
use Rattle.abc_text.proofs.number.number_of.Goals.{then-is_empty-via-else-is_empty+else-text-gt-LONGEST_NUMBER+then-not-are_digits}

pub returns-then-is_empty-clause-value : goal.returns-then-is_empty-clause-value
returns-then-is_empty-clause-value c =
    elim c.then-is_empty.branch [
      | then-is_empty-via-then-is_empty w ↦ number_of-empty c.args.text.now (sym w.if-is_empty.ensures)
      | then-is_empty-via-else-is_empty+then-text-gt-LONGEST_NUMBER w ↦ number_of-long c.args.text.now w.if-text-gt-LONGEST_NUMBER.true
      | then-is_empty-via-else-is_empty+else-text-gt-LONGEST_NUMBER+then-not-are_digits w ↦ number_of-other c.args.text.now (sym w.if-not-are_digits.ensures)
    ]

pub returns-then-is_empty-clause-spelled : goal.returns-then-is_empty-clause-spelled
returns-then-is_empty-clause-spelled c = number_exact c.args.text.now None (returns-then-is_empty-clause-value c)

pub returns-clause-value : goal.returns-clause-value
returns-clause-value c =
    ap Some c.decimal.ensures.value
    ∙ number_of-whole c.args.text.now (let some = eqb-false _ _ (sym c.if-is_empty.ensures) in omega arith) c.if-text-gt-LONGEST_NUMBER.false (sym c.if-not-are_digits.ensures)

pub returns-clause-spelled : goal.returns-clause-spelled
returns-clause-spelled c = number_exact c.args.text.now (Some c.decimal.result) (returns-clause-value c)
