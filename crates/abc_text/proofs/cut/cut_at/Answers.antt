use Rattle.std.proofs.Common.{sym, arith}
use Rattle.std.proofs.lemmas.Grind.{common_steps}
use Rattle.abc_text.specs.Cut.{cut_at}
use Rattle.abc_text.proofs.Cuts.{no_place, cut_at-cuts}
use Rattle.abc_text.proofs.cut.cut_at.Goals as goal

pub returns-in_err-at-clause-cut : goal.returns-in_err-at-clause-cut
returns-in_err-at-clause-cut c = rw c.from_residual.ensures (no_place c.args.byte c.args.text.now c.in_err-at.ensures.value)

pub returns-clause-value : goal.returns-clause-value
unfolding cut_at
returns-clause-value c = grind (arith, common_steps)

pub returns-clause-cut : goal.returns-clause-cut
returns-clause-cut c = cut_at-cuts c.args.byte c.args.text.now _ (sym (returns-clause-value c))
