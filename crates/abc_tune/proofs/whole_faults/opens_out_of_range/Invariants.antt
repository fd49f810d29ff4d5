use Rattle.std.proofs.Common.{◌≡◌, false, drop}
use Rattle.abc_tune.specs.WholeFaults.{out_after}
use Rattle.abc_voices.specs.Layout.{items_in}
use Rattle.abc_voices.specs.Opening.{after_all}
use Rattle.abc_tune.proofs.whole_faults.opens_out_of_range.Given as goal

-- whether the tempo is out of range so far, and after the rest
abbrev pub invariant-loop-cell : goal.invariant-loop-cell
invariant-loop-cell l = after_all out_after l.out_of_range (items_in (drop l.cell-index l.cells)) ≡ after_all out_after false (items_in l.cells)
