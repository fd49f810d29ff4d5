use Rattle.std.proofs.Common.{◌≡◌, drop}
use Rattle.abc_tune_compiler.specs.Sort.{insert_all, sort_dedup}
use Rattle.abc_tune_compiler.proofs.sort.set_of.Given as goal

abbrev pub invariant-loop-element : goal.invariant-loop-element
invariant-loop-element g l = insert_all g.T.Ord.cmp l.set.keys (drop l.element-index l.elements) ≡ sort_dedup g.T.Ord.cmp l.elements
