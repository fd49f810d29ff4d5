use Rattle.std.proofs.Common.{◌≡◌, drop}
use Rattle.abc_perform_harmony.specs.Harmony.{IsHarmony, harmony_after}
use Rattle.abc_perform_harmony.proofs.harmony.harmony_after.Given as goal

abbrev pub invariant-loop-timed : goal.invariant-loop-timed
invariant-loop-timed l =
    (harmony_after l.after (drop l.timed-index l.marks) ≡ harmony_after l.fn.harmony l.marks) × IsHarmony l.after
