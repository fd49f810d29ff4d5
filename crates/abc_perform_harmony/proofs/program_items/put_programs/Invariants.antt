use Rattle.std.proofs.Common.{◌≡◌, ◌++◌, drop}
use Rattle.abc_perform_harmony.specs.ProgramItems.{program_items}
use Rattle.abc_perform_harmony.proofs.program_items.put_programs.Given as goal

abbrev pub invariant-loop-timed : goal.invariant-loop-timed
invariant-loop-timed l =
    l.performance ++ program_items l.part (drop l.timed-index l.marks) ≡ l.initial.performance ++ program_items l.part l.marks
