use Rattle.std.proofs.Common.{◌≡◌, drop}
use Rattle.abc_bars.specs.Titles.{title_said}
use Rattle.abc_tune.specs.Abc.{first_value}
use Rattle.abc_tune.proofs.abc.title_among.Given as goal

-- none came so far
abbrev pub invariant-loop-item : goal.invariant-loop-item
invariant-loop-item l = first_value title_said (drop l.item-index l.items) ≡ first_value title_said l.items
