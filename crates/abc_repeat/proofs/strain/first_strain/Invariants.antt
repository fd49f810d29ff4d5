use Rattle.std.proofs.Common.{◌≡◌, ◌++◌, false, take, drop}
use Rattle.abc_repeat.specs.Strain.{front_of, texts_of}
use Rattle.abc_repeat.proofs.strain.first_strain.Given as goal

-- the first strain is the marks so far and the first strain of the rest
abbrev pub invariant-loop-at : goal.invariant-loop-at
invariant-loop-at l = take l.at l.marks ++ front_of (texts_of l.fn.opened l.inside (drop l.at l.marks)) ≡ front_of (texts_of l.fn.opened false l.marks)
