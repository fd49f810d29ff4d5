use Rattle.std.proofs.Common.{◌≡◌, ◌++◌, drop, map}
use Rattle.std.specs.Borrow.{Bor}
use Rattle.abc_bars_items.specs.Item.{Items}
use Rattle.abc_play.proofs.cells.items_of_cells.Given as goal

-- what the cells so far give, and the others
abbrev pub invariant-loop-at : goal.invariant-loop-at
invariant-loop-at l = map (λ (one : Bor Items). one.now) l.given.items ++ drop l.at l.chain.items ≡ l.chain.items
