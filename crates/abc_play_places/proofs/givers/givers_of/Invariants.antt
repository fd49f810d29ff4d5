use Rattle.std.proofs.Common.{◌≡◌, ◌++◌, drop}
use Rattle.abc_play_places.specs.Givers.{matched}
use Rattle.abc_play_places.proofs.givers.givers_of.Given as goal

-- the givers so far, and those of the rest
abbrev pub invariant-loop-item : goal.invariant-loop-item
invariant-loop-item l = l.found.items ++ matched l.cell l.next (drop l.item-index l.items) ≡ matched l.cell 0 l.items
