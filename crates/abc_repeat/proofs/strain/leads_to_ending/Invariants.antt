use Rattle.std.proofs.Common.{◌≡◌, drop}
use Rattle.abc_repeat.specs.Strain.{leads_to_ending}
use Rattle.abc_repeat.proofs.strain.leads_to_ending.Given as goal

-- the rest leads to an ending as the whole does
abbrev pub invariant-loop-mark : goal.invariant-loop-mark
invariant-loop-mark l = leads_to_ending (drop l.mark-index l.marks) ≡ leads_to_ending l.marks
