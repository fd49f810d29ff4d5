use Rattle.abc_bars_header.specs.SameDefaults.{defaults_equality, same_defaults}
use Rattle.abc_bars_voice.specs.Equality.{test_by}
use Rattle.abc_bars_header.proofs.same_header.DefaultsPartialEq.eq.Goals as goal

pub returns : goal.returns
unfolding same_defaults
returns c = test_by defaults_equality c.same.result c.args.self.now c.args.other.now c.same.ensures
