use Rattle.std.proofs.Common.{◌≡◌, ◌-◌, ◌++◌, drop, length}
use Rattle.abc_live_index.proofs.output.copied_items.Given as goal

-- what is copied, and the rest
abbrev pub invariant-loop-items : goal.invariant-loop-items
invariant-loop-items g l = l.copies.items ++ drop (length l.copies.items) l.chain.items ≡ l.chain.items

abbrev pub decreases-loop-items : goal.decreases-loop-items
decreases-loop-items g l = length l.chain.items - length l.copies.items
