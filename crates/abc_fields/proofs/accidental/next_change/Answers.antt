use Rattle.std.proofs.Common.{inr, arith}
use Rattle.std.proofs.lemmas.Grind.{common_steps}
use Rattle.abc_fields.proofs.Accidentals.{no_change, no_accidental, no_letter_at, change_first, changes_exact}
use Rattle.abc_fields.proofs.accidental.next_change.Goals as goal

pub returns-in_err-at-clause-changes : goal.returns-in_err-at-clause-changes
returns-in_err-at-clause-changes c = rw c.from_residual.ensures (no_change c.args.text.now c.in_err-at.ensures.value)

pub returns-in_err-accidental-clause-changes : goal.returns-in_err-accidental-clause-changes
returns-in_err-accidental-clause-changes c = rw c.from_residual-in_err-accidental.ensures (inr (no_accidental c.args.text.now c.in_ok-at.at c.in_ok-at.ensures.value c.in_err-accidental.ensures.value))

pub returns-in_err-letter-clause-changes : goal.returns-in_err-letter-clause-changes
returns-in_err-letter-clause-changes c = rw c.from_residual-in_err-letter.ensures (inr (no_letter_at c.args.text.now c.in_ok-at.at c.in_ok-at.ensures.value c.in_err-letter.ensures.value))

pub returns-clause-changes : goal.returns-clause-changes
returns-clause-changes c =
    let at = c.in_ok-at.ensures.value in
    let accidental = c.in_ok-accidental.ensures.value in
    let letter = c.in_ok-letter.ensures.value in
    grind (arith, common_steps, change_first c.args.text.now c.in_ok-at.at c.in_ok-accidental.accidental c.in_ok-letter.letter at accidental letter)

pub returns-in_err-at-clause-grammar : goal.returns-in_err-at-clause-grammar
returns-in_err-at-clause-grammar c = changes_exact c.args.text.now

pub returns-in_err-accidental-clause-grammar : goal.returns-in_err-accidental-clause-grammar
returns-in_err-accidental-clause-grammar c = changes_exact c.args.text.now

pub returns-in_err-letter-clause-grammar : goal.returns-in_err-letter-clause-grammar
returns-in_err-letter-clause-grammar c = changes_exact c.args.text.now

pub returns-clause-grammar : goal.returns-clause-grammar
returns-clause-grammar c = changes_exact c.args.text.now
