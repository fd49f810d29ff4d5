use Rattle.std.proofs.Common.{◌≡◌, ◌-◌, ◌^◌, min}
use Rattle.abc_repeat.specs.Strain.{strain_of}
use Rattle.abc_repeat.specs.Play.{endings_size}
use Rattle.abc_repeat.proofs.size.endings_size.Given as goal

-- the places that the passes so far play
abbrev pub invariant-loop-earlier : goal.invariant-loop-earlier
invariant-loop-earlier l = l.size ≡ min (endings_size (strain_of l.text) l.earlier) (2 ^ 64 - 1)
