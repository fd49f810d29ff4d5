use Rattle.std.proofs.Common.{◌≡◌, map, take}
use Rattle.abc_live_text.specs.Pieces.{class_in}
use Rattle.abc_live_text.proofs.blocks.blocks_of.Given as goal

abbrev pub invariant-loop-row : goal.invariant-loop-row
invariant-loop-row g l = record { classes : l.classes.items ≡ map class_in (take l.row-index l.rows) }
