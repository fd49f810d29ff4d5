use Rattle.std.proofs.Common.{◌≡◌, ◌++◌, drop, map}
use Rattle.abc_live_index.specs.Faults.{shifted_fault}
use Rattle.abc_live_index.proofs.faults.put_shifted.Given as goal

-- those that are put, and the rest
abbrev pub invariant-loop-fault : goal.invariant-loop-fault
invariant-loop-fault l =
    l.faults.items ++ map (shifted_fault l.gone l.came) (drop l.fault-index l.following) ≡ l.initial.faults.items ++ map (shifted_fault l.gone l.came) l.following
