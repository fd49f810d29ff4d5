use Rattle.std.proofs.Common.{◌≡◌, ◌++◌, drop}
use Rattle.abc_perform_patterns.specs.Stretch.{ending_all}
use Rattle.abc_perform_patterns.proofs.stretch.put_ending.Given as goal

abbrev pub invariant-loop-span : goal.invariant-loop-span
invariant-loop-span l =
    l.steps ++ ending_all l.lack.0 (drop l.span-index l.spans) ≡ l.initial.steps ++ ending_all l.lack.0 l.spans
