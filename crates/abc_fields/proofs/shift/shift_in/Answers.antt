use Rattle.std.proofs.Common.{Some, sym, ap, ◌∙◌}
use Rattle.abc_text.specs.Word.{words_of}
use Rattle.abc_fields.specs.Shift.{shift_after, shift_of}
use Rattle.abc_fields.proofs.Shifts.{shift_exact, shift_small}
use Rattle.abc_fields.proofs.shift.shift_in.Goals as goal

pub returns-in_err-property_of-clause-grammar : goal.returns-in_err-property_of-clause-grammar
returns-in_err-property_of-clause-grammar c = shift_exact (words_of c.args.text.now)

pub returns-clause-grammar : goal.returns-clause-grammar
returns-clause-grammar c = shift_exact (words_of c.args.text.now)

pub returns-clause-value : goal.returns-clause-value
unfolding shift_of
returns-clause-value c = ap (λ words. shift_after words c.loop-word.shift) (sym c.in_default.ensures.words) ∙ c.loop-word.invariant

pub returns-clause-small : goal.returns-clause-small
returns-clause-small c = shift_small (words_of c.args.text.now) (Some c.loop-word.shift) (returns-clause-value c)
