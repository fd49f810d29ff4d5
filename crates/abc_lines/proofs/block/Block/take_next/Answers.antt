use Rattle.std.proofs.Common.{arith}
use Rattle.abc_lines.proofs.Blocks.{size_shown, gap_shown}
use Rattle.abc_lines.proofs.block.Block.take_next.Goals as goal

pub take_next-requires-clause-following : goal.take_next-requires-clause-following
take_next-requires-clause-following g c =
    let size = size_shown c.self.inside.row c.in-Some.row c.args.self.now c.in-Some.is c.self.view_is c.self.invariant in
    let gap = gap_shown c.self.inside.row c.in-Some.row c.args.self.now c.in-Some.is c.self.view_is c.self.invariant in
    omega (arith, c.requires, size, gap)
