use Rattle.std.proofs.Common.{◌≡◌, ◌++◌, drop}
use Rattle.std.specs.List.{flat_map}
use Rattle.abc_live.specs.Class.{class_of}
use Rattle.tests_live.specs.declared.toy.Played.{Played}
use Rattle.tests_live.specs.Toy.{bytes_of_class}
use Rattle.tests_live.proofs.toy.whole_file.Given as goal

-- the bytes of the lines so far, and of the rest
abbrev pub invariant-loop-one : goal.invariant-loop-one
invariant-loop-one l = l.file ++ flat_map (λ (one : Played). bytes_of_class (class_of one.line) one) (drop l.one-index l.all)
    ≡ flat_map (λ (one : Played). bytes_of_class (class_of one.line) one) l.all
