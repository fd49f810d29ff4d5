use Rattle.std.proofs.Common.{ap, ◌∙◌, length}
use Rattle.abc_lines.proofs.Blocks.{size_shown}
use Rattle.abc_lines.proofs.block.Block.end.Goals as goal

pub destroy_empty-requires-clause-empty : goal.destroy_empty-requires-clause-empty
destroy_empty-requires-clause-empty g c = size_shown c.self.inside.row c.in-Some.row c.args.self c.in-Some.is c.self.view_is c.self.invariant ∙ ap length c.requires
