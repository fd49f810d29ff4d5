use Rattle.std.proofs.Common.{◌≡◌, ◌++◌}
use Rattle.abc_repeat.specs.Strain.{strain_of}
use Rattle.abc_repeat.proofs.Passes.{passes_to}
use Rattle.abc_repeat.proofs.play.put_strain.Given as goal

-- the places of the passes so far
abbrev pub invariant-loop-earlier : goal.invariant-loop-earlier
invariant-loop-earlier l = l.play.items ≡ l.initial.play.items ++ passes_to l.from (strain_of l.text) l.earlier
