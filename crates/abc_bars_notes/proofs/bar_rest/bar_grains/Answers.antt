use Rattle.abc_bars_notes.proofs.WholeBars.{bar_value, bar_exact_at, bar_short_at}
use Rattle.abc_bars_notes.proofs.bar_rest.bar_grains.Goals as goal

pub returns-clause-value : goal.returns-clause-value
returns-clause-value c = bar_value c.from.result c.from-2.result c.args.num c.args.den c.from.ensures c.from-2.ensures

pub returns-clause-exact : goal.returns-clause-exact
returns-clause-exact c = bar_exact_at c.from.result c.from-2.result c.args.num c.args.den c.from.ensures c.from-2.ensures c.requires

pub returns-clause-range : goal.returns-clause-range
returns-clause-range c = bar_short_at c.from.result c.from-2.result c.args.num c.args.den c.from.ensures c.from-2.ensures c.requires
