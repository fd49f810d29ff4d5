use Rattle.std.proofs.Common.{◌≡◌, ◌++◌, map}
use Rattle.abc_tune.specs.Abc.{rules_of_abc}
use Rattle.abc_tune_compiler.specs.Tune.{cells_in}
use Rattle.abc_play.specs.Places.{placed_cell}
use Rattle.abc_play.proofs.InText.{cells_along}
use Rattle.abc_play.proofs.cells.cells_of.Given as goal

-- the cells so far, and those of the other lines
abbrev pub invariant-loop-at : goal.invariant-loop-at
invariant-loop-at l = map placed_cell l.cells.items ++ cells_along l.text.lines.text l.at l.fn.block.to ≡ cells_in rules_of_abc l.text.lines.text l.fn.block
