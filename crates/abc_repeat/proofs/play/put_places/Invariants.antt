use Rattle.std.proofs.Common.{◌≡◌, ◌+◌, ◌++◌, drop}
use Rattle.abc_repeat.specs.Play.{places_from}
use Rattle.abc_repeat.proofs.play.put_places.Given as goal

-- the places so far, and the places of the rest
abbrev pub invariant-loop-at : goal.invariant-loop-at
invariant-loop-at l = l.play.items ++ places_from (l.from + l.at) (drop l.at l.marks) ≡ l.initial.play.items ++ places_from l.from l.marks
