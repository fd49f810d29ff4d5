use Rattle.std.proofs.Common.{◌≡◌, ◌++◌, drop, map}
use Rattle.abc_perform_item.specs.GraceItems.{grace_item}
use Rattle.abc_perform_item.proofs.grace_items.put_graces.Given as goal

abbrev pub invariant-loop-grace : goal.invariant-loop-grace
invariant-loop-grace l =
    l.performance ++ map (grace_item l.transpose l.share) (drop l.grace-index l.graces)
    ≡ l.initial.performance ++ map (grace_item l.transpose l.share) l.graces
