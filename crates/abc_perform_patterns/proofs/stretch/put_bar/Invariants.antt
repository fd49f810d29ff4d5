use Rattle.std.proofs.Common.{◌≡◌, ◌++◌, drop}
use Rattle.abc_perform_patterns.specs.Stretch.{clipped_all}
use Rattle.abc_perform_patterns.proofs.stretch.put_bar.Given as goal

abbrev pub invariant-loop-span : goal.invariant-loop-span
invariant-loop-span l =
    l.steps ++ clipped_all l.begin.0 l.length.0 (drop l.span-index l.spans)
    ≡ l.initial.steps ++ clipped_all l.begin.0 l.length.0 l.spans
