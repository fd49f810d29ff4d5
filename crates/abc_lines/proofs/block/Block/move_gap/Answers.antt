use Rattle.std.proofs.Common.{arith}
use Rattle.abc_lines.proofs.Blocks.{size_shown}
use Rattle.abc_lines.proofs.block.Block.move_gap.Goals as goal

pub move_gap-requires-clause-within : goal.move_gap-requires-clause-within
move_gap-requires-clause-within g c = omega (arith, c.requires, size_shown c.self.inside.row c.in-Some.row c.args.self.now c.in-Some.is c.self.view_is c.self.invariant)
