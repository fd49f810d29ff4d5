use Rattle.std.proofs.Common.{◌≡◌, ◌-◌, ◌^◌, min, take, length}
use Rattle.abc_voices.specs.Layout.{items_in}
use Rattle.abc_voices.proofs.layout.count_of.Given as goal

-- how many those give that are passed
abbrev pub invariant-loop-one : goal.invariant-loop-one
invariant-loop-one l = l.count ≡ min (length (items_in (take l.one-index l.items))) (2 ^ 64 - 1)
