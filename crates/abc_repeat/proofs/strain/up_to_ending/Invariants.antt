use Rattle.std.proofs.Common.{◌≡◌, ◌++◌, take, drop}
use Rattle.abc_repeat.specs.Strain.{strain_of}
use Rattle.abc_repeat.proofs.strain.up_to_ending.Given as goal

-- the common part is the marks so far and the common part of the rest
abbrev pub invariant-loop-at : goal.invariant-loop-at
invariant-loop-at l = take l.at l.text ++ (strain_of (drop l.at l.text)).common ≡ (strain_of l.text).common
