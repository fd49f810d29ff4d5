use Rattle.abc_fields.specs.Unit.{part_as_unit}
use Rattle.abc_bars_voice.proofs.WholeParts.{part_value, part_exact, part_short}
use Rattle.abc_bars_voice.proofs.unit_length.UnitLength.grains.Goals as goal

pub returns-clause-value : goal.returns-clause-value
returns-clause-value c = part_value c.from.result (part_as_unit c.self.inside.parts) c.args.self c.from.ensures c.self.view_is c.self.invariant

pub returns-clause-exact : goal.returns-clause-exact
returns-clause-exact c = part_exact c.from.result (part_as_unit c.self.inside.parts) c.args.self c.from.ensures c.self.view_is c.self.invariant

pub returns-clause-range : goal.returns-clause-range
returns-clause-range c = part_short c.from.result (part_as_unit c.self.inside.parts) c.args.self c.from.ensures c.self.view_is c.self.invariant
