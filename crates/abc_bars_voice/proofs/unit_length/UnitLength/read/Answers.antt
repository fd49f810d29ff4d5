use Rattle.std.proofs.Common.{arith}
use Rattle.abc_bars_voice.proofs.WholeParts.{few_parts, part_in_parts}
use Rattle.abc_bars_voice.proofs.unit_length.UnitLength.read.Goals as goal

pub overflow_cast-result : goal.overflow_cast-result
overflow_cast-result c =
    let few = few_parts c.args.value.now c.in_ok-part.part ((c.read_unit.ensures.exact.ok c.in_ok-part.part).0 c.in_ok-part.was) in omega (arith, few)

pub invariant_of-result : goal.invariant_of-result
invariant_of-result c = part_in_parts c.args.value.now c.in_ok-part.part ((c.read_unit.ensures.exact.ok c.in_ok-part.part).0 c.in_ok-part.was)
