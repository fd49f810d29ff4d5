use Rattle.std.proofs.Common.{◌≡◌, None, rules, sym, ◌∙◌}
use Rattle.abc_bars_notes.proofs.BarCounts.{bars_exact, no_bars}
use Rattle.abc_bars_notes.proofs.bar_rest.bars_of.Goals as goal

pub returns-in_err-factor-clause-exact : goal.returns-in_err-factor-clause-exact
returns-in_err-factor-clause-exact c =
    let none : c.from_residual.result ≡ None = search rules in
    no_bars c.args.num c.args.den c.args.bars c.from_residual.result c.requires (sym c.ratio_of.ensures.value ∙ c.in_err-factor.was) none

pub returns-clause-exact : goal.returns-clause-exact
returns-clause-exact c =
    bars_exact c.args.num c.args.den c.args.bars (record { num = c.from.result; den = c.from-2.result }) c.in_ok-factor.factor c.length.result c.ok.result
    (λ i. record { num = c.from.ensures i; den = c.from-2.ensures i }) (sym c.ratio_of.ensures.value ∙ c.in_ok-factor.was) c.ok.ensures.value c.length.ensures.ok
