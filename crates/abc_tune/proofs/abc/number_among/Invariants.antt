use Rattle.std.proofs.Common.{◌≡◌, drop}
use Rattle.abc_tune.specs.Abc.{first_value, number_of}
use Rattle.abc_tune.proofs.abc.number_among.Given as goal

-- none came so far
abbrev pub invariant-loop-item : goal.invariant-loop-item
invariant-loop-item l = first_value number_of (drop l.item-index l.items) ≡ first_value number_of l.items
