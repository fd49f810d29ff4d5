use Rattle.std.proofs.Common.{◌≡◌, drop}
use Rattle.abc_tune.specs.WholeFaults.{out_after}
use Rattle.abc_voices.specs.Opening.{after_all}
use Rattle.abc_tune.proofs.whole_faults.out_after_items.Given as goal

-- whether the tempo is out of range so far, and after the rest
abbrev pub invariant-loop-item : goal.invariant-loop-item
invariant-loop-item l = after_all out_after l.out_of_range (drop l.item-index l.items) ≡ after_all out_after l.before l.items
