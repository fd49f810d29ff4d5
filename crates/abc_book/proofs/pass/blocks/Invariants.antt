use Rattle.std.proofs.Common.{◌≡◌, ◌++◌, drop}
use Rattle.abc_book.specs.declared.pass.OpenBlock.TheVariants.{Nothing}
use Rattle.abc_book.specs.Pass.{blocks_from}
use Rattle.abc_book.proofs.pass.blocks.Given as goal

-- the blocks so far, and those of the remaining lines
abbrev pub invariant-loop-at : goal.invariant-loop-at
invariant-loop-at l = l.blocks.items ++ blocks_from l.before l.at (drop l.at l.classes) ≡ blocks_from Nothing 0 l.classes
